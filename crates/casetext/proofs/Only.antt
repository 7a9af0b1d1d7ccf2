-- Nothing else meets a public function's contract: two results, and two last contents of the row lent, that meet it at the same
-- arguments are the same.
-- Assumes nothing.
use mathlib.Core.Path.{◌≡◌, refl}
use Rattle.store.proofs.Only.{Only, same}
use Rattle.casetext.specs.Reading.{read_into, told, row_after}
use Rattle.casetext.specs.Report.{reported, report_row}
use Rattle.casetext.specs.contracts.reader.read as #read
use Rattle.casetext.specs.Written.{written, written_row}
use Rattle.casetext.specs.contracts.reporting.report as #report
use Rattle.casetext.specs.contracts.writer.write as #write

pub only_read : Only #read.ended (λ M 𝓤. #read.clauses)
only_read = record {
  φ = λ κs a r ws.
      (r ≡ told (read_into a.1.0.now a.0.now))
      × (ws.1.0 ≡ row_after (read_into a.1.0.now a.0.now) a.1.0.now);
  ensures = λ 𝓛 mem run κs a g r ws. refl;
  only = λ κs a r r' ws ws' p q. (same p.0 q.0, λ i. (tt, (same p.1 q.1 i, tt)));
}

pub only_report : Only #report.ended (λ M 𝓤. #report.clauses)
only_report = record {
  φ = λ κs a r ws. (r ≡ reported a.1.0.now a.0.now) × (ws.1.0 ≡ report_row a.1.0.now a.0.now);
  ensures = λ 𝓛 mem run κs a g r ws. refl;
  only = λ κs a r r' ws ws' p q. (same p.0 q.0, λ i. (tt, (same p.1 q.1 i, tt)));
}

pub only_write : Only #write.ended (λ M 𝓤. #write.clauses)
only_write = record {
  φ = λ κs a r ws.
      (r ≡ written a.0 a.1.0 a.1.1.0.now a.1.1.1.0.now)
      × (ws.1.1.1.0 ≡ written_row a.0 a.1.0 a.1.1.0.now a.1.1.1.0.now);
  ensures = λ 𝓛 mem run κs a g r ws. refl;
  only = λ κs a r r' ws ws' p q. (same p.0 q.0, λ i. (tt, (tt, (tt, (same p.1 q.1 i, tt)))));
}
