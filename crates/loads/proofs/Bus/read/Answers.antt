-- The low bytes of the word that stands in one memory are the load.
use Rattle.std.proofs.Common.{◌≡◌, ◌%◌, sym, ◌∙◌, ap, arith}
use Rattle.model.specs.Wait.{size_bytes_of}
use Rattle.model.specs.Memory.{target}
use Rattle.model.specs.Load.{load}
use Rattle.loads.specs.Bus.{bus, Parted}
use Rattle.loads.proofs.Words.{word_loads}
use Rattle.loads.proofs.Bus.read.Goals as goal

pub returns-in-Some : goal.returns-in-Some
returns-in-Some c =
    let a = c.args in
    let v = c.self.inside in
    let aligned : a.addr % size_bytes_of a.size ≡ 0 = rw (← c.size_bytes.ensures) c.if-addr-size_bytes-eq0.true in
    let met : a.at ≡ target v.lengths a.addr = c.requires ∙ ap (λ (p : Parted). target p.lengths a.addr) (sym c.self.view_is) in
    c.low_bytes.ensures
    ∙ word_loads v.lengths (bus v.pc v.latch v.bios.now v.rom.now v.store.now) a.size a.addr (omega arith) aligned
    c.word_from.ensures.store c.word_from.ensures.rom a.at met (sym c.word_from.ensures.word ∙ c.in-Some.is)
    ∙ ap (λ (p : Parted). load p.lengths p.sees a.size a.addr) c.self.view_is
