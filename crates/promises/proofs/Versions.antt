-- The laws behind what is promised of the two versions.
use Rattle.std.specs.Prelude.{◌≡◌, ℕ, eqb}
use Rattle.std.proofs.Common.{◌∙◌}
use Rattle.model.specs.Sheet.{record_at, isa_state, step_of}
use Rattle.model.specs.Outcome.{Lent, media_of}
use Rattle.model.specs.Alike.{state_at, answer_at}
use Rattle.model.specs.declared.Version.TheVariants.{Two}
use Rattle.model.specs.declared.Step.TheVariants.{Instruction}
use Rattle.model.proofs.Laws.VersionOne.{version_one, version_two_refused}
use Rattle.model.proofs.Laws.VersionOneCalls.{bill_version_one, preview_version_one, explain_version_one}
use Rattle.model.proofs.Laws.VersionOneCalls.{bill_two_refused, preview_two_refused, explain_two_refused}
use Rattle.model.proofs.Laws.Versions.{outcome_versions, bill_versions, explain_versions, preview_versions}
use Rattle.model.proofs.Laws.Versions.{two_instruction, answered_at_bc, answered_at_ba, answered_elsewhere}
use Rattle.model.proofs.Laws.Told.{state_next}
use Rattle.promises.specs.Versions.{OthersRefused, OthersUnbilled, OthersUnexplained, OthersUnpreviewed}
use Rattle.promises.specs.Versions.{RunAsBefore, BillAsBefore, GroundsAsBefore, PreviewAsBefore, PopFound, PopLost, OtherOpcodes}
use Rattle.promises.specs.Versions.{TwoUnknownBefore, InstructionAt}

pub other_versions : OthersRefused
unfolding OthersRefused
other_versions i o call = rw call (outcome_versions i)

pub tariff_other_versions : OthersUnbilled
unfolding OthersUnbilled
tariff_other_versions t b call = rw call (bill_versions t)

pub grounds_other_versions : OthersUnexplained
unfolding OthersUnexplained
grounds_other_versions e x call = rw call (explain_versions e)

pub preview_other_versions : OthersUnpreviewed
unfolding OthersUnpreviewed
preview_other_versions q p call = rw call (preview_versions q)

pub as_before : RunAsBefore
unfolding RunAsBefore
as_before i o call one = call ∙ version_one i one

pub tariff_as_before : BillAsBefore
unfolding BillAsBefore
tariff_as_before t b call one = call ∙ bill_version_one t one

pub grounds_as_before : GroundsAsBefore
unfolding GroundsAsBefore
grounds_as_before e x call one = call ∙ explain_version_one e one

pub preview_as_before : PreviewAsBefore
unfolding PreviewAsBefore
preview_as_before q p call one = call ∙ preview_version_one q one

pub two_unknown_before : TwoUnknownBefore
unfolding TwoUnknownBefore
two_unknown_before = (version_two_refused, bill_two_refused, preview_two_refused, explain_two_refused)

-- the step of such a record
step_there : (i : Lent) (k size : ℕ) → InstructionAt i k size
    → let r = record_at i.sheet k in step_of r ≡ Instruction Two (isa_state size) r.address r.value (eqb r.flag 1)
step_there i k size x = rw (← x.sized) (two_instruction i.sheet k x.version x.kind)

pub pop_at_bc : PopFound
unfolding PopFound answer_at isa_state
pop_at_bc i o call ok k x pop =
    let r = record_at i.sheet k in
    rw (state_next i k x.there, step_there i k 2 x)
    (answered_at_bc (media_of i) (state_at i k) r.address r.value (eqb r.flag 1) pop)

pub pop_at_ba : PopLost
unfolding PopLost answer_at isa_state
pop_at_ba i o call ok k x was =
    let r = record_at i.sheet k in
    rw (state_next i k x.there, step_there i k 2 x)
    (answered_at_ba (media_of i) (state_at i k) r.address r.value (eqb r.flag 1) was)

pub other_opcodes : OtherOpcodes
unfolding OtherOpcodes answer_at
other_opcodes i o call ok k size x other =
    let r = record_at i.sheet k in
    let same = answered_elsewhere (media_of i) (state_at i k) r.address r.value (eqb r.flag 1) (isa_state size) other in
    rw (state_next i k x.there, step_there i k size x) (same.answers, same.leaves)
