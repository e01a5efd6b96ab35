-- A claim about the step of a record, kind by kind: what is shown of each kind's step holds of every record's.
use Rattle.std.specs.Prelude.{◌≡◌, true, ℕ, ◌%◌, eqb}
use Rattle.std.proofs.Common.{eqb-true}
use Rattle.model.specs.Wait.{access_size_of, aligned}
use Rattle.model.specs.Sheet.{isa_state, words_of, step_of}
use Rattle.model.proofs.Laws.Choice.{choose}
use Rattle.model.specs.declared.AccessSize.TheVariants.{Word}
use Rattle.model.specs.declared.SheetRecord.{SheetRecord}
use Rattle.model.specs.declared.Step.{Step}
use Rattle.model.specs.declared.Step.TheVariants.{Read, Write, Waitcnt, Idle, Fetch, Restart, Instruction, Pc, Latch}
use Rattle.model.specs.declared.Step.TheVariants.{BlockRead, BlockWrite}
use Rattle.model.specs.Laws.Kinds.{Other}

pub by_kind : (P : ℕ → Step → Type 0) (r : SheetRecord)
    → P 1 (Read (access_size_of r.size) r.address)
    → P 2 (Write (access_size_of r.size) r.address r.value)
    → P 3 (Waitcnt (r.value % 0x1_0000))
    → P 4 (Idle r.value)
    → P 5 (Fetch r.address)
    → P 6 (Restart r.address)
    → P 7 (Instruction r.version (isa_state r.size) r.address r.value (eqb r.flag 1))
    → P 8 (Pc r.address)
    → P 10 (BlockRead (aligned Word r.address) (words_of r.value))
    → P 11 (BlockWrite (aligned Word r.address) (words_of r.value))
    → (Other r.kind → P r.kind (Latch r.value))
    → P r.kind (step_of r)
unfolding step_of
by_kind P r read write waitcnt idle fetch restart instruction pc block_read block_write latch =
    choose (P r.kind) (eqb r.kind 1) (λ e. at 1 e read)
    λ e₁. choose (P r.kind) (eqb r.kind 2) (λ e. at 2 e write)
    λ e₂. choose (P r.kind) (eqb r.kind 3) (λ e. at 3 e waitcnt)
    λ e₃. choose (P r.kind) (eqb r.kind 4) (λ e. at 4 e idle)
    λ e₄. choose (P r.kind) (eqb r.kind 5) (λ e. at 5 e fetch)
    λ e₅. choose (P r.kind) (eqb r.kind 6) (λ e. at 6 e restart)
    λ e₆. choose (P r.kind) (eqb r.kind 7) (λ e. at 7 e instruction)
    λ e₇. choose (P r.kind) (eqb r.kind 8) (λ e. at 8 e pc)
    λ e₈. choose (P r.kind) (eqb r.kind 10) (λ e. at 10 e block_read)
    λ e₁₀. choose (P r.kind) (eqb r.kind 11) (λ e. at 11 e block_write)
    λ e₁₁. latch
    (record {
      read = e₁;
      write = e₂;
      waitcnt = e₃;
      idle = e₄;
      fetch = e₅;
      restart = e₆;
      instruction = e₇;
      pc = e₈;
      block_read = e₁₀;
      block_write = e₁₁;
    })
  where
    at : (n : ℕ) {x : Step} → eqb r.kind n ≡ true → P n x → P r.kind x
    at n e p = let k : r.kind ≡ n = eqb-true r.kind n e in rw k p
