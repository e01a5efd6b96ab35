-- A block as the code does it: what its functions are handed and promise, and the laws of its two loops over the words: one in
-- time, one that stores.
use Rattle.std.specs.Prelude.{◌≡◌, ℕ, zero, suc, ◌+◌, ◌-◌, ◌*◌, ◌^◌, ◌<◌, ◌≤◌, List, [], ◌++◌, length, refl}
use Rattle.std.proofs.Common.{sym, ◌∙◌, append_assoc, append-nil, arith, add-zero, add_assoc, length-append}
use Rattle.std.proofs.Math.Path.{ap}
use Rattle.model.specs.Base.{further}
use Rattle.model.specs.Wait.{aligned}
use Rattle.model.specs.Price.{previously, previous, access_of, data_cycles, block_cycles_of, block_previous}
use Rattle.model.specs.declared.Previous.{Previous}
use Rattle.model.specs.Memory.{lengths_sum, target}
use Rattle.model.specs.Load.{Bus, load, last_word_of}
use Rattle.model.specs.Store.{Put, puts, puts_at, landed, mode_of, video_count}
use Rattle.model.specs.Step.{with_previous, block_timed, Changed, counted_at, count_store, stores, block_stores}
use Rattle.model.specs.Sheet.{max_words}
use Rattle.model.proofs.Laws.Bounds.{data_between}
use Rattle.model.proofs.Laws.Landed.{four_land}
use Rattle.model.specs.Laws.Previous.{SoundPrevious}
use Rattle.model.proofs.Laws.Previous.{access_sound}
use Rattle.model.proofs.Laws.Run.{landed_length}
use Rattle.model.proofs.Laws.Stores.{landed_append}
use Rattle.model.specs.declared.AccessSize.TheVariants.{Word}
use Rattle.model.specs.declared.Clock.{Clock}
use Rattle.model.specs.declared.Contents.{Contents}
use Rattle.model.specs.declared.Lengths.{Lengths}
use Rattle.model.specs.declared.Target.{Target}
use Rattle.parts.specs.declared.Stored.{Stored}
use Rattle.stores.specs.Stored.{StoredWord}
use Rattle.step.specs.declared.Zeroed.{Zeroed}

-- ---- in time

-- some words are priced, in k cycles: after the access p, `left` words from `a` on are still to come
pub record Pricing (w : ℕ) (p₀ : Previous) (a₀ n₀ : ℕ) (p : Previous) (k a left : ℕ) : Type 0 where
  pub same : k + block_cycles_of w p a left ≡ block_cycles_of w p₀ a₀ n₀
  pub sound : SoundPrevious p
  pub place : a < 2 ^ 32
  pub small : k + 18 * left ≤ 18 * max_words

module _ {w : ℕ} {p₀ : Previous} {a₀ n₀ : ℕ} where
  pub begin_pricing : SoundPrevious p₀ → a₀ < 2 ^ 32 → n₀ ≤ max_words → Pricing w p₀ a₀ n₀ p₀ 0 a₀ n₀
  begin_pricing s place few = record { same = omega arith; sound = s; place = place; small = omega arith }

  -- one word more
  price_word : {p : Previous} {k a left : ℕ} → Pricing w p₀ a₀ n₀ p k a (suc left)
      → Pricing w p₀ a₀ n₀ (access_of Word a) (k + data_cycles w p Word a) (further 4 a) left
  price_word {p} {k} {a} {left} g =
      record {
        same =
            add_assoc k (data_cycles w p Word a) (block_cycles_of w (access_of Word a) (further 4 a) left) ∙ g.same;
        sound = access_sound Word a;
        place = omega arith;
        small = omega (arith, g.small, data_between w p Word a);
      }

  -- as a turn of the loop has it
  pub turn_pricing : {p : Previous} {k a left price low next : ℕ} → Pricing w p₀ a₀ n₀ p k a left → 0 < left
      → price ≡ data_cycles w p Word a → low ≡ aligned Word a → next ≡ further 4 a
      → Pricing w p₀ a₀ n₀ (previously low 4) (k + price) next (left - 1)
  turn_pricing {p} {k} {a} {left} {price} {low} {next} g some e l f =
      let one : left ≡ suc (left - 1) = omega (arith, some) in
      rw (e, l, f) (price_word (rw one at g))

  pub end_pricing : {p : Previous} {k a left : ℕ} → Pricing w p₀ a₀ n₀ p k a left → left ≤ 0
      → k ≡ block_cycles_of w p₀ a₀ n₀
  end_pricing {p} {k} {a} {left} g h =
      let none : left ≡ 0 = omega arith in
      sym (add-zero k) ∙ (rw none at g.same)

-- ---- the clock behind it

pub last_access : (p : Previous) (a n : ℕ) → a < 2 ^ 32 → block_previous p a (suc n) ≡ access_of Word (further (4 * n) a)
last_access p a zero h = ap (access_of Word) (omega arith)
last_access p a (suc n) h = last_access (access_of Word a) (further 4 a) n (omega arith) ∙ ap (access_of Word) (omega arith)

pub clock_behind : (c : Clock) (a n : ℕ) {low : ℕ} {after : Clock} → a < 2 ^ 32 → 1 ≤ n
    → low ≡ aligned Word (further (4 * (n - 1)) a) → after ≡ with_previous c (previously low 4)
    → after ≡ (block_timed c a n).clock
clock_behind c a n {low} {after} small some l e =
    let one : suc (n - 1) ≡ n = omega arith in
    e
    ∙ ap (λ (m : ℕ). with_previous c (previously m 4)) l
    ∙ ap (with_previous c) (sym (last_access (previous c) a (n - 1) small))
    ∙ ap (λ (m : ℕ). with_previous c (block_previous (previous c) a m)) one

-- ---- the last word

-- lengths that add up to the store, and a word at least, but no more than there can be
pub record Loadable (l : Lengths) (n : ℕ) (store : List ℕ) : Type 0 where
  pub whole : lengths_sum l ≡ length store
  pub some : 1 ≤ n
  pub few : n ≤ max_words

pub last_at : (l : Lengths) (b : Bus) (v a n : ℕ) → a < 2 ^ 32
    → last_word_of l b v a (suc n) ≡ load l b Word (further (4 * n) a)
last_at l b v a zero h = ap (load l b Word) (omega arith)
last_at l b v a (suc n) h =
    last_at l b (load l b Word a) (further 4 a) n (omega arith) ∙ ap (load l b Word) (omega arith)

-- ---- stores

-- what a block that stores leaves, and tells of it
pub record Clears (d : Changed) (before : List ℕ) (r : Zeroed) (after : List ℕ) : Type 0 where
  pub contents : r.contents ≡ d.contents
  pub number : r.landed ≡ length d.puts
  pub bytes : after ≡ landed before d.puts

-- some words are stored, so that these bytes landed: `left` words from `a` on are still to come
pub record Clearing (l : Lengths) (d₀ : Contents) (s₀ : List ℕ) (a₀ n₀ : ℕ) (d : Contents) (s : List ℕ) (k a left : ℕ)
    : Type 0 where
  pub done : List Put
  pub contents : (block_stores l d s a left).contents ≡ (block_stores l d₀ s₀ a₀ n₀).contents
  pub puts : done ++ (block_stores l d s a left).puts ≡ (block_stores l d₀ s₀ a₀ n₀).puts
  pub store : s ≡ landed s₀ done
  pub number : k ≡ length done
  pub whole : lengths_sum l ≡ length s
  pub small : k + 4 * left ≤ 4 * max_words

module _ {l : Lengths} {d₀ : Contents} {s₀ : List ℕ} {a₀ n₀ : ℕ} where
  pub begin_clearing : Loadable l n₀ s₀ → Clearing l d₀ s₀ a₀ n₀ d₀ s₀ 0 a₀ n₀
  begin_clearing h =
      record {
        done = [];
        contents = refl;
        puts = refl;
        store = refl;
        number = refl;
        whole = h.whole;
        small = omega (arith, h.few);
      }

  clear_word : {d : Contents} {s : List ℕ} {k a left : ℕ} → Clearing l d₀ s₀ a₀ n₀ d s k a (suc left)
      → (let word = stores l d s Word a 0 in
      Clearing l d₀ s₀ a₀ n₀ word.contents (landed s word.puts) (k + length word.puts) (further 4 a) left)
  clear_word {d} {s} {k} {a} {left} g =
      let word = stores l d s Word a 0 in
      let next = landed s word.puts in
      let rest = block_stores l word.contents next (further 4 a) left in
      record {
        done = g.done ++ word.puts;
        contents = g.contents;
        puts = append_assoc g.done word.puts rest.puts ∙ g.puts;
        store = ap (λ (x : List ℕ). landed x word.puts) g.store ∙ sym (landed_append s₀ g.done word.puts);
        number = ap (λ (n : ℕ). n + length word.puts) g.number ∙ sym (length-append g.done word.puts);
        whole = g.whole ∙ sym (landed_length s word.puts);
        small = omega (arith, g.small, four_land l (mode_of l s) Word a 0);
      }

  -- as a turn of the loop has it: the memory that the word meets, what its store reports, and the counters behind it
  pub turn_clearing : {d counted : Contents} {s after : List ℕ} {k a left next : ℕ} {t : Target} {r : Stored}
      → Clearing l d₀ s₀ a₀ n₀ d s k a left → 0 < left → t ≡ target l a → StoredWord a 0 t s after r
      → counted ≡ counted_at t r.halfwords d → next ≡ further 4 a
      → Clearing l d₀ s₀ a₀ n₀ counted after (k + r.landed) next (left - 1)
  unfolding puts count_store
  turn_clearing {d} {counted} {s} {after} {k} {a} {left} {next} {t} {r} g some met stored c e =
      let one : left ≡ suc (left - 1) = omega (arith, some) in
      let mode = mode_of l s in
      let contents =
      c ∙ ap (λ (n : ℕ). counted_at t n d) (stored mode).halfwords
      ∙ ap (λ (x : Target). counted_at x (video_count mode Word x) d) met in
      let bytes = (stored mode).bytes ∙ ap (λ (x : Target). landed s (puts_at mode Word a 0 x)) met in
      let number = (stored mode).number ∙ ap (λ (x : Target). length (puts_at mode Word a 0 x)) met in
      rw (contents, bytes, number, e) (clear_word (rw one at g))

  pub end_clearing : {d : Contents} {s : List ℕ} {k a left : ℕ} → Clearing l d₀ s₀ a₀ n₀ d s k a left → left ≤ 0
      → Clears (block_stores l d₀ s₀ a₀ n₀) s₀ (record { contents = d; landed = k }) s
  end_clearing {d} {s} {k} {a} {left} g h = ended (rw none at g)
    where
      none : left ≡ 0
      none = omega arith

      ended : Clearing l d₀ s₀ a₀ n₀ d s k a 0 → Clears (block_stores l d₀ s₀ a₀ n₀) s₀ (record { contents = d; landed = k }) s
      ended f =
          let all : f.done ≡ (block_stores l d₀ s₀ a₀ n₀).puts = sym (append-nil f.done) ∙ f.puts in
          record {
            contents = f.contents;
            number = f.number ∙ ap length all;
            bytes = f.store ∙ ap (landed s₀) all;
          }

-- a word lands four bytes at most
pub few_land : (l : Lengths) (a : ℕ) {s after : List ℕ} {t : Target} {r : Stored} → StoredWord a 0 t s after r
    → t ≡ target l a → r.landed ≤ 4
unfolding puts
few_land l a {s} {after} {t} {r} stored met =
    omega (
      arith,
      (stored (mode_of l s)).number ∙ ap (λ (x : Target). length (puts_at (mode_of l s) Word a 0 x)) met,
      four_land l (mode_of l s) Word a 0,
    )

-- a BLOCK WRITE answers nothing
pub no_value : (l : Lengths) (d : Contents) (s : List ℕ) (a n : ℕ) → 0 ≡ (block_stores l d s a n).value
no_value l d s a zero = refl
no_value l d s a (suc n) = refl
