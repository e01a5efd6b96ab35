-- The memory that is met lies in the store, and the byte that is read there is the load.
use Rattle.std.proofs.Common.{◌≡◌, sym, ap, ◌∙◌, inl, inr}
use Rattle.model.specs.Memory.{target}
use Rattle.model.specs.Load.{Bus, load8}
use Rattle.loads.specs.Bus.{bus, Parted}
use Rattle.loads.proofs.Arms.{met_lies, plain_byte, video_byte, chip_byte}
use Rattle.loads.proofs.Bus.read8.Goals as goal

pub memory-requires : goal.memory-requires
memory-requires c =
    let v = c.self.inside in
    let met : c.args.at ≡ target v.lengths c.args.addr =
    c.requires ∙ ap (λ (p : Parted). target p.lengths c.args.addr) (sym c.self.view_is) in
    (met_lies v.lengths c.args.addr v.store.now c.in-Sram.is met c.self.invariant).end

pub memory-requires-in-Plain : goal.memory-requires-in-Plain
memory-requires-in-Plain c =
    let v = c.self.inside in
    let met : c.args.at ≡ target v.lengths c.args.addr =
    c.requires ∙ ap (λ (p : Parted). target p.lengths c.args.addr) (sym c.self.view_is) in
    elim c.in-Plain.is [
      | inl plain ↦ (met_lies v.lengths c.args.addr v.store.now plain met c.self.invariant).end
      | inr video ↦ (met_lies v.lengths c.args.addr v.store.now video.1 met c.self.invariant).end
    ]

pub returns-in-Sram : goal.returns-in-Sram
returns-in-Sram c =
    let v = c.self.inside in
    let b : Bus = bus v.pc v.latch v.bios.now v.rom.now v.store.now in
    let met : c.args.at ≡ target v.lengths c.args.addr =
    c.requires ∙ ap (λ (p : Parted). target p.lengths c.args.addr) (sym c.self.view_is) in
    let lies = met_lies v.lengths c.args.addr v.store.now c.in-Sram.is met c.self.invariant in
    chip_byte v.lengths b c.args.addr met c.in-Sram.is lies.end c.memory.ensures c.read_sram8.ensures
    ∙ ap (λ (p : Parted). load8 p.lengths p.sees c.args.addr) c.self.view_is

pub returns-in-Plain : goal.returns-in-Plain
returns-in-Plain c =
    let v = c.self.inside in
    let b : Bus = bus v.pc v.latch v.bios.now v.rom.now v.store.now in
    let met : c.args.at ≡ target v.lengths c.args.addr =
    c.requires ∙ ap (λ (p : Parted). target p.lengths c.args.addr) (sym c.self.view_is) in
    let seen = ap (λ (p : Parted). load8 p.lengths p.sees c.args.addr) c.self.view_is in
    elim c.in-Plain.is [
      | inl plain ↦ plain_byte v.lengths b c.args.addr met plain c.memory-in-Plain.ensures c.byte_at-in-Plain.ensures ∙ seen
      | inr video ↦ video_byte v.lengths b c.args.addr met video.1 c.memory-in-Plain.ensures c.byte_at-in-Plain.ensures ∙ seen
    ]
