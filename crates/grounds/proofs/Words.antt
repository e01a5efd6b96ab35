-- The words of a block, told one after the other: what holds at the loop's test, that a turn tells one word more, and that
-- behind the last all are told. Assumes nothing.
use Rattle.std.proofs.Common.{◌≡◌, ℕ, suc, ◌+◌, ◌-◌, ◌*◌, ◌<◌, ◌≤◌, List, [], ◌∷◌, ◌++◌, map, length, set, replicate, sym, refl, ap, ◌∙◌, ap₂, append_assoc, append-nil, arith, length-append}
use Rattle.std.specs.Prelude.{Option, Some, None}
use mathlib.Core.List.{map-append}
use lib.ListN.{length-map}
use lib.Seq.{append_snoc, set_at}
use Rattle.model.specs.Base.{further}
use Rattle.model.specs.Price.{BusKind, OnEwram, OnVideo, OnRom, OnSram, OnFast, bus_kind}
use Rattle.model.specs.Region.{decode}
use Rattle.model.specs.Wait.{aligned}
use Rattle.model.specs.Sheet.{max_words}
use Rattle.model.specs.Grounds.{ground_byte, data_grounds_on, grounds_length, beat_bytes}
use Rattle.model.proofs.Laws.Explained.{beat_width}
use Rattle.model.specs.declared.Ground.{Ground}
use Rattle.model.specs.declared.AccessSize.TheVariants.{Word}
use Rattle.grounds.specs.declared.Beats.{Beats}
use Rattle.grounds.specs.Trail.{if_any, grounds_of, ground_at, data_from, data_next, block_from, block_next, TellsBlock}

-- ---- one byte more

-- the byte of one ground more, written behind those of others
ground_behind : (gs : List Ground) (g : Ground) (place : ℕ) → place ≡ length gs → place < grounds_length
    → set (beat_bytes gs) place (ground_byte g) ≡ beat_bytes (gs ++ g ∷ [])
ground_behind gs g place e h =
    let left : grounds_length - length gs ≡ suc (grounds_length - suc place) = omega (arith, e) in
    let many : suc place ≡ length (gs ++ g ∷ []) = omega (arith, e, length-append gs (g ∷ [])) in
    ap (λ (n : ℕ). set (map ground_byte gs ++ replicate n 0) place (ground_byte g)) left
    ∙ set_at (map ground_byte gs) 0 (replicate (grounds_length - suc place) 0) (ground_byte g) place
    (length-map gs ground_byte ∙ sym e)
    ∙ sym (append_snoc (map ground_byte gs) (ground_byte g) (replicate (grounds_length - suc place) 0))
    ∙ ap₂ (λ (bs : List ℕ) (n : ℕ). bs ++ replicate (grounds_length - n) 0) (sym (map-append ground_byte gs (g ∷ []))) many

-- the beats of a word are at most two
word_few : (next : Option ℕ) (a : ℕ) → length (data_from next Word a) ≤ 2
word_few next a = by (bus_kind (decode a))
  where
    by : (b : BusKind) → length (data_grounds_on Word (ground_at next (aligned Word a)) b) ≤ 2
    by OnEwram = omega arith
    by OnVideo = omega arith
    by (OnRom win) = omega arith
    by OnSram = omega arith
    by OnFast = omega arith

-- ---- the loop

-- what holds at its test: of the words of a block some are told, and the `left` others go on behind them. A word more may take
-- two bytes more
pub record Telling (next : Option ℕ) (addr words : ℕ) (out : List ℕ) (place : ℕ) (from : Option ℕ) (at left : ℕ) : Type 0 where
  pub told : List Ground
  pub written : out ≡ beat_bytes told
  pub many : place ≡ length told
  pub rest : told ++ block_from from at left ≡ block_from next addr words
  pub goes_on : block_next from at left ≡ block_next next addr words
  pub room : place + 2 * left ≤ grounds_length

pub begin : (next : Option ℕ) (addr words : ℕ) {out : List ℕ} → out ≡ beat_bytes [] → words ≤ max_words
    → Telling next addr words out 0 next addr words
begin next addr words w h =
    record { told = []; written = w; many = refl; rest = refl; goes_on = refl; room = omega arith }

-- grounds that were written behind others, in the bytes and in number
pub record Written (told gs : List Ground) (out : List ℕ) (place : ℕ) : Type 0 where
  pub bytes : out ≡ beat_bytes (told ++ gs)
  pub many : place ≡ length (told ++ gs)

module _ (told : List Ground) (place : ℕ) (e : place ≡ length told) where
  one_written : (g : Ground) → place < grounds_length
      → Written told (g ∷ []) (set (beat_bytes told) place (ground_byte g)) (place + 1)
  one_written g h =
      record { bytes = ground_behind told g place e h; many = omega (arith, e, length-append told (g ∷ [])) }

  two_written : (g i : Ground) → place + 1 < grounds_length
      → Written told (g ∷ i ∷ []) (set (set (beat_bytes told) place (ground_byte g)) (place + 1) (ground_byte i))
      (place + 1 + 1)
  two_written g i h =
      let first = one_written g (omega (arith, h)) in
      record {
        bytes =
            ap (λ (bs : List ℕ). set bs (place + 1) (ground_byte i)) first.bytes
            ∙ ground_behind (told ++ g ∷ []) i (place + 1) first.many h
            ∙ ap beat_bytes (append_assoc told (g ∷ []) (i ∷ []));
        many = omega (arith, e, length-append told (g ∷ i ∷ []));
      }

module _ {next : Option ℕ} {addr words : ℕ} {out : List ℕ} {place : ℕ} {from : Option ℕ} {at : ℕ} where
  -- one word more
  more : {left : ℕ} (n : ℕ) {bs : List ℕ} {behind : ℕ} (t : Telling next addr words out place from at left)
      → left ≡ suc n → Written t.told (data_from from Word at) bs behind
      → Telling next addr words bs behind (Some (data_next Word at)) (further 4 at) n
  more n {bs} {behind} t l w =
      let gs = data_from from Word at in
      record {
        told = t.told ++ gs;
        written = w.bytes;
        many = w.many;
        rest =
            append_assoc t.told gs (block_from (Some (data_next Word at)) (further 4 at) n)
            ∙ ap (λ (m : ℕ). t.told ++ block_from from at m) (sym l)
            ∙ t.rest;
        goes_on = ap (block_next from at) (sym l) ∙ t.goes_on;
        room = omega (arith, t.room, t.many, w.many, length-append t.told gs, word_few from at);
      }

  -- as the code has it: the word's beats are written, one or two
  pub one_beat : {left : ℕ} (t : Telling next addr words out place from at left) → 0 < left → (b : Beats)
      → grounds_of b ≡ data_from from Word at → b.second ≡ None → {first : ℕ} → first ≡ ground_byte b.first
      → Written t.told (data_from from Word at) (set out place first) (place + 1)
  one_beat t h b e n f =
      let one : data_from from Word at ≡ b.first ∷ [] = sym e ∙ ap (λ (o : Option Ground). b.first ∷ if_any o) n in
      rw (one, t.written, f) (one_written t.told place t.many b.first (omega (arith, t.room, h)))

  pub two_beats : {left : ℕ} (t : Telling next addr words out place from at left) → 0 < left → (b : Beats) (i : Ground)
      → grounds_of b ≡ data_from from Word at → b.second ≡ Some i → {first second : ℕ} → first ≡ ground_byte b.first
      → second ≡ ground_byte i
      → Written t.told (data_from from Word at) (set (set out place first) (place + 1) second) (place + 1 + 1)
  two_beats t h b i e n f s =
      let two : data_from from Word at ≡ b.first ∷ i ∷ [] = sym e ∙ ap (λ (o : Option Ground). b.first ∷ if_any o) n in
      rw (two, t.written, f, s) (two_written t.told place t.many b.first i (omega (arith, t.room, h)))

  pub turn : {left : ℕ} {bs : List ℕ} {k behind on : ℕ} (t : Telling next addr words out place from at left) → 0 < left
      → Written t.told (data_from from Word at) bs k → behind ≡ data_next Word at → on ≡ further 4 at
      → Telling next addr words bs k (Some behind) on (left - 1)
  turn {left} t h w n g = rw (n, g) (more (left - 1) t (omega (arith, h)) w)

  -- the buffer keeps its length
  pub same_room : {left : ℕ} → Telling next addr words out place from at left → length out ≡ grounds_length
  same_room t = ap length t.written ∙ beat_width t.told (omega (arith, t.room, t.many))

  -- behind the last
  pub finish : {left : ℕ} → Telling next addr words out place from at left → left ≡ 0 → TellsBlock next addr words out from
  finish t z =
      record {
        told =
            t.written
            ∙ ap beat_bytes (sym (append-nil t.told) ∙ ap (λ (n : ℕ). t.told ++ block_from from at n) (sym z) ∙ t.rest);
        goes_on = ap (block_next from at) (sym z) ∙ t.goes_on;
      }
