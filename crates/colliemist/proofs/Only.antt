-- Nothing else meets the contract of a function that a C symbol calls.
-- Assumes nothing.
use mathlib.Core.Path.{◌≡◌, refl}
use Rattle.store.proofs.Only.{Only, same}
use Rattle.casetext.specs.Answers.{reading_line}
use Rattle.casetext.specs.Reading.{read_into, told, row_after}
use Rattle.casetext.specs.Report.{reported, report_row}
use Rattle.casetext.specs.Written.{written, written_row}
use Rattle.colliemist.specs.Count.{counted, bytes_or, entries_or, claimants_or, ceiling_or}
use Rattle.colliemist.specs.contracts.colliemist_report as #report
use Rattle.colliemist.specs.contracts.colliemist_read as #read
use Rattle.colliemist.specs.contracts.colliemist_write as #write

pub only_colliemist_report : Only #report.ended (λ M 𝓤. #report.clauses)
only_colliemist_report = record {
  φ = λ κs a r ws. (r ≡ counted (reported a.1.0.now a.0.now)) × (ws.1.0 ≡ report_row a.1.0.now a.0.now);
  ensures = λ 𝓛 mem run κs a g r ws. refl;
  only = λ κs a r r' ws ws' p q. (same p.0 q.0, λ i. (tt, (same p.1 q.1 i, tt)));
}

pub only_colliemist_read : Only #read.ended (λ M 𝓤. #read.clauses)
only_colliemist_read = record {
  φ = λ κs a r ws.
      let said = read_into a.1.0.now a.0.now in
      (r ≡ entries_or (told said)) × (ws.1.0 ≡ row_after said a.1.0.now)
      × (ws.1.1.0 ≡ claimants_or a.1.1.0.now (told said)) × (ws.1.1.1.0 ≡ ceiling_or a.1.1.1.0.now (told said))
      × (ws.1.1.1.1.0 ≡ reading_line (told said));
  ensures = λ 𝓛 mem run κs a g r ws. refl;
  only = λ κs a r r' ws ws' p q.
      (same p.0 q.0, λ i. (tt, (same p.1 q.1 i, (same p.2 q.2 i, (same p.3 q.3 i, (same p.4 q.4 i, tt))))));
}

pub only_colliemist_write : Only #write.ended (λ M 𝓤. #write.clauses)
only_colliemist_write = record {
  φ = λ κs a r ws.
      (r ≡ bytes_or (written a.0 a.1.0 a.1.1.0.now a.1.1.1.0.now))
      × (ws.1.1.1.0 ≡ written_row a.0 a.1.0 a.1.1.0.now a.1.1.1.0.now);
  ensures = λ 𝓛 mem run κs a g r ws. refl;
  only = λ κs a r r' ws ws' p q. (same p.0 q.0, λ i. (tt, (tt, (tt, (same p.1 q.1 i, tt)))));
}
