-- Nothing else meets the contract of a C symbol: it says what the contract of the function does that the symbol calls.
-- Assumes nothing.
use Rattle.store.proofs.Only.{Only}
use Rattle.colliemist.proofs.Only.{only_colliemist_report, only_colliemist_read, only_colliemist_write}
use Rattle.colliemist_c.specs.contracts.colliemist_report as #report
use Rattle.colliemist_c.specs.contracts.colliemist_read as #read
use Rattle.colliemist_c.specs.contracts.colliemist_write as #write

pub only_report : Only #report.ended (λ M 𝓤. #report.clauses)
only_report = record {
  φ = only_colliemist_report.φ;
  ensures = only_colliemist_report.ensures;
  only = only_colliemist_report.only;
}

pub only_read : Only #read.ended (λ M 𝓤. #read.clauses)
only_read = record {
  φ = only_colliemist_read.φ;
  ensures = only_colliemist_read.ensures;
  only = only_colliemist_read.only;
}

pub only_write : Only #write.ended (λ M 𝓤. #write.clauses)
only_write = record {
  φ = only_colliemist_write.φ;
  ensures = only_colliemist_write.ensures;
  only = only_colliemist_write.only;
}
