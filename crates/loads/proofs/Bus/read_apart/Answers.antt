-- Where nothing is lent an aligned load is 0.
use Rattle.std.proofs.Common.{◌≡◌, ◌%◌, true, eqb, length, sym, ◌∙◌, ap, arith, eqb-true}
use Rattle.model.proofs.Laws.Choice.{parts}
use Rattle.model.specs.Wait.{size_bytes_of}
use Rattle.model.specs.Memory.{target}
use Rattle.model.specs.Load.{load}
use Rattle.loads.specs.Bus.{bus, Parted}
use Rattle.loads.proofs.Words.{no_bytes, nothing_loads}
use Rattle.loads.proofs.Bus.read_apart.Goals as goal

pub returns-then-addr-size_bytes : goal.returns-then-addr-size_bytes
returns-then-addr-size_bytes c =
    let a = c.args in
    let v = c.self.inside in
    let all = c.if-addr-size_bytes.true in
    let even : eqb (a.addr % c.size_bytes.result) 0 ≡ true = search parts in
    let store : eqb (length v.store.now) 0 ≡ true = search parts in
    let rom : eqb (length v.rom.now) 0 ≡ true = search parts in
    let zero : c.reads_zero.result ≡ true = search parts in
    let aligned : a.addr % size_bytes_of a.size ≡ 0 = rw (← c.size_bytes.ensures) (eqb-true _ 0 even) in
    let met : a.at ≡ target v.lengths a.addr = c.requires ∙ ap (λ (p : Parted). target p.lengths a.addr) (sym c.self.view_is) in
    nothing_loads v.lengths (bus v.pc v.latch v.bios.now v.rom.now v.store.now) a.addr
    (no_bytes _ (eqb-true _ 0 store)) (no_bytes _ (eqb-true _ 0 rom))
    a.size a.at (omega arith) aligned met (sym c.reads_zero.ensures ∙ zero)
    ∙ ap (λ (p : Parted). load p.lengths p.sees a.size a.addr) c.self.view_is
