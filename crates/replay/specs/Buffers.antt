-- What a recorded case lends before its run. From tests/against-rust/README.md, "The sample". Assumes nothing.
use Rattle.std.specs.Prelude.{◌≡◌, length}
use Rattle.replay.specs.Pattern.{IsFilled}
use Rattle.replay.specs.Space.{in_use}
use Rattle.replay.specs.declared.buffers.Buffers.{Buffers}
use Rattle.replay.specs.declared.head.Head.{Head}
use Rattle.replay.specs.declared.pattern.Buffer.TheVariants.{Store, Bios, Rom, Answers, Second}

-- each buffer is as long as the head says, and those that the sample does not have are made from its seed
pub record IsSetUp (h : Head) (b : Buffers) : Type 0 where
  pub sheet : length (in_use b.sheet) ≡ h.buffers.sheet
  pub board : length (in_use b.board) ≡ h.buffers.board
  pub store : IsFilled (in_use b.store) h.buffers.store h.asked.seed Store
  pub bios : IsFilled (in_use b.bios) h.buffers.bios h.asked.seed Bios
  pub rom : IsFilled (in_use b.rom) h.buffers.rom h.asked.seed Rom
  pub answers : IsFilled (in_use b.answers) h.buffers.answers h.asked.seed Answers
  pub second : IsFilled (in_use b.second) h.buffers.second h.asked.seed Second
