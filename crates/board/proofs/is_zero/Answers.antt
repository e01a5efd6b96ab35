-- The switch aside, an empty buffer is the new one.
use Rattle.std.proofs.Common.{◌≡◌, Bool, false, eqb, ◌∙◌, arith}
use Rattle.std.proofs.lemmas.Grind.{common_steps}
use Rattle.std.proofs.Math.Bool.{beq}
use Rattle.std.specs.Prelude.{◌&&◌, not}
use Rattle.model.specs.BoardBytes as def
use Rattle.board.proofs.is_zero.Goals as goal

-- the derived equality goes over all fields in their order, the definition over all but the switch in its own
in_order : (h n x w a e f b : Bool)
    → (h && (n && (x && (w && (a && (beq e e && (beq f false && beq b false))))))) ≡ (h && n && not f && not b && w && x && a)
in_order h n x w a e f b = grind (arith, common_steps)

pub returns : goal.returns
unfolding def.is_zero
returns c =
    let p = c.args.p in
    c.eq.ensures
    ∙ rw (c.new.ensures)
    (in_order (eqb p.head 0) (eqb p.count 0) (eqb p.next_addr 0) (eqb p.wait_left 0) (eqb p.head_addr 0) p.enabled p.filling
    p.first_beat)
