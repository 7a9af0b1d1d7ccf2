-- Nothing else meets a public function's contract: two results that meet it at the same arguments are the same.
-- Each line cites the contract as the source states it (`Post`); all of them are one law.
use mathlib.Core.Path.{◌≡◌, sym, ◌∙◌}
use mathlib.Core.List.{List}
use Prim.Native.Nat.{ℕ}
use contract.Lifetimes.{Lfts}
use borrow.Fn.Kinds.{ParamKind, ResultKind, Dens, res_t, Out, ended_of}
use denote.Triple.Clauses.{AtExit}
use Rattle.rules.proofs.Claimant.blank.Kinds as claimant_blank_kinds
use Rattle.rules.proofs.Claimant.blank.Reads as claimant_blank_reads
use Rattle.rules.proofs.Claimant.well_formed.Kinds as claimant_well_formed_kinds
use Rattle.rules.proofs.Claimant.well_formed.Reads as claimant_well_formed_reads
use Rattle.rules.proofs.Claimant.reads.Kinds as claimant_reads_kinds
use Rattle.rules.proofs.Claimant.reads.Reads as claimant_reads_reads
use Rattle.rules.proofs.Claimant.ask.Kinds as claimant_ask_kinds
use Rattle.rules.proofs.Claimant.ask.Reads as claimant_ask_reads
use Rattle.rules.proofs.Claimant.step.Kinds as claimant_step_kinds
use Rattle.rules.proofs.Claimant.step.Reads as claimant_step_reads
use Rattle.rules.proofs.Claimant.leave.Kinds as claimant_leave_kinds
use Rattle.rules.proofs.Claimant.leave.Reads as claimant_leave_reads
use Rattle.rules.proofs.Register.row.Kinds as register_row_kinds
use Rattle.rules.proofs.Register.row.Reads as register_row_reads
use Rattle.rules.proofs.Register.value.Kinds as register_value_kinds
use Rattle.rules.proofs.Register.value.Reads as register_value_reads
use Rattle.rules.proofs.Register.row_of.Kinds as register_row_of_kinds
use Rattle.rules.proofs.Register.row_of.Reads as register_row_of_reads
use Rattle.rules.proofs.Register.value_of.Kinds as register_value_of_kinds
use Rattle.rules.proofs.Register.value_of.Reads as register_value_of_reads
use Rattle.rules.proofs.Board.opens.Kinds as board_opens_kinds
use Rattle.rules.proofs.Board.opens.Reads as board_opens_reads
use Rattle.rules.proofs.Board.refusal.Kinds as board_refusal_kinds
use Rattle.rules.proofs.Board.refusal.Reads as board_refusal_reads
use Rattle.rules.proofs.order.conflict.Kinds as conflict_kinds
use Rattle.rules.proofs.order.conflict.Reads as conflict_reads
use Rattle.rules.proofs.answers.PlaceFromU8.from.Kinds as place_from_u8_kinds
use Rattle.rules.proofs.answers.PlaceFromU8.from.Reads as place_from_u8_reads
use Rattle.rules.proofs.answers.U8FromRefusal.from.Kinds as u8_from_refusal_kinds
use Rattle.rules.proofs.answers.U8FromRefusal.from.Reads as u8_from_refusal_reads
use Rattle.rules.proofs.Answer.refused_number.Kinds as answer_refused_number_kinds
use Rattle.rules.proofs.Answer.refused_number.Reads as answer_refused_number_reads
use Rattle.rules.proofs.Answer.number_byte.Kinds as answer_number_byte_kinds
use Rattle.rules.proofs.Answer.number_byte.Reads as answer_number_byte_reads
use Rattle.rules.proofs.answers.U16FromAnswer.from.Kinds as u16_from_answer_kinds
use Rattle.rules.proofs.answers.U16FromAnswer.from.Reads as u16_from_answer_reads
use Rattle.rules.proofs.answers.U8FromAnswer.from.Kinds as u8_from_answer_kinds
use Rattle.rules.proofs.answers.U8FromAnswer.from.Reads as u8_from_answer_reads

-- What two results that meet a contract have in common: the lifetimes and the arguments, and not what comes back of what was lent.
abbrev pub Only : (n : ℕ) (ps : List (ParamKind n)) (r : ResultKind n) → Out n ps r → Type 0
Only n ps r Post =
    (κs : Lfts n) (a : Dens κs ps) (x y : (res_t r κs).Denot) (s t : AtExit (ended_of n ps r) κs)
    → Post κs a x s → Post κs a y t → x ≡ y

-- The law: two things that equal a third are equal.
pub same : {A : Type 0} {x y z : A} → x ≡ z → y ≡ z → x ≡ y
same p q = p ∙ sym q

pub only_claimant_blank : Only 0 claimant_blank_kinds.ps claimant_blank_kinds.r claimant_blank_reads.Post
only_claimant_blank κs a x y s t p q = same p q

pub only_claimant_well_formed : Only 0 claimant_well_formed_kinds.ps claimant_well_formed_kinds.r claimant_well_formed_reads.Post
only_claimant_well_formed κs a x y s t p q = same p q

pub only_claimant_reads : Only 0 claimant_reads_kinds.ps claimant_reads_kinds.r claimant_reads_reads.Post
only_claimant_reads κs a x y s t p q = same p q

pub only_claimant_ask : Only 0 claimant_ask_kinds.ps claimant_ask_kinds.r claimant_ask_reads.Post
only_claimant_ask κs a x y s t p q = same p q

pub only_claimant_step : Only 0 claimant_step_kinds.ps claimant_step_kinds.r claimant_step_reads.Post
only_claimant_step κs a x y s t p q = same p q

pub only_claimant_leave : Only 0 claimant_leave_kinds.ps claimant_leave_kinds.r claimant_leave_reads.Post
only_claimant_leave κs a x y s t p q = same p q

pub only_register_row : Only 0 register_row_kinds.ps register_row_kinds.r register_row_reads.Post
only_register_row κs a x y s t p q = same p q

pub only_register_value : Only 0 register_value_kinds.ps register_value_kinds.r register_value_reads.Post
only_register_value κs a x y s t p q = same p q

pub only_register_row_of : Only 0 register_row_of_kinds.ps register_row_of_kinds.r register_row_of_reads.Post
only_register_row_of κs a x y s t p q = same p q

pub only_register_value_of : Only 0 register_value_of_kinds.ps register_value_of_kinds.r register_value_of_reads.Post
only_register_value_of κs a x y s t p q = same p q

pub only_board_opens : Only 0 board_opens_kinds.ps board_opens_kinds.r board_opens_reads.Post
only_board_opens κs a x y s t p q = same p q

pub only_board_refusal : Only 0 board_refusal_kinds.ps board_refusal_kinds.r board_refusal_reads.Post
only_board_refusal κs a x y s t p q = same p q

pub only_conflict : Only 0 conflict_kinds.ps conflict_kinds.r conflict_reads.Post
only_conflict κs a x y s t p q = same p q

pub only_place_from_u8 : Only 0 place_from_u8_kinds.ps place_from_u8_kinds.r place_from_u8_reads.Post
only_place_from_u8 κs a x y s t p q = same p q

pub only_u8_from_refusal : Only 0 u8_from_refusal_kinds.ps u8_from_refusal_kinds.r u8_from_refusal_reads.Post
only_u8_from_refusal κs a x y s t p q = same p q

pub only_answer_refused_number : Only 0 answer_refused_number_kinds.ps answer_refused_number_kinds.r answer_refused_number_reads.Post
only_answer_refused_number κs a x y s t p q = same p q

pub only_answer_number_byte : Only 0 answer_number_byte_kinds.ps answer_number_byte_kinds.r answer_number_byte_reads.Post
only_answer_number_byte κs a x y s t p q = same p q

pub only_u16_from_answer : Only 0 u16_from_answer_kinds.ps u16_from_answer_kinds.r u16_from_answer_reads.Post
only_u16_from_answer κs a x y s t p q = same p q

pub only_u8_from_answer : Only 0 u8_from_answer_kinds.ps u8_from_answer_kinds.r u8_from_answer_reads.Post
only_u8_from_answer κs a x y s t p q = same p q
