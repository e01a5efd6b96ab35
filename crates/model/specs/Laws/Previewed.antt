-- Words of the laws in proofs/Laws/Previewed.antt, as definitions. Those laws:
-- A preview, of bytes as lent: it is the run on a copy of the board, but for the named zeros, for all memories that the run
-- accepts; when it is refused, and with what; and what two alike ones have. That the answers are the run's is the law
-- `run_blanked` of Times.antt, put into bytes.
use Rattle.std.specs.Prelude.{◌≡◌, ◌≢◌, ℕ, ◌*◌, ◌<◌}
use Rattle.model.specs.Base.{byte_at}
use Rattle.model.specs.Sheet.{record_count}
use Rattle.model.specs.BoardBytes.{answer_length}
use Rattle.model.specs.Preview.{Asked, Previewed, preview_rows}
use Rattle.model.specs.Laws.Rows.{TableOf}

-- each number exactly when its row decides
abbrev pub PreviewTable : Asked → Previewed → Type 0
PreviewTable q p = TableOf (preview_rows q) p.number

-- sheet and board, always; a refusal gives total 0 and leaves the answers too
pub record Unwritten (q : Asked) (p : Previewed) : Type 0 where
  pub sheet : p.sheet ≡ q.sheet
  pub board : p.board ≡ q.board
  pub refused_total : p.number ≢ 0 → p.total ≡ 0
  pub refused_answers : p.number ≢ 0 → p.answers ≡ q.answers

-- what two accepted previews have whose sheets and boards are alike: every byte of their answers, and the total
pub record SamePreview (q : Asked) (p o : Previewed) : Type 0 where
  pub answers : (j : ℕ) → j < answer_length * record_count q.sheet → byte_at p.answers j ≡ byte_at o.answers j
  pub totals : p.total ≡ o.total
