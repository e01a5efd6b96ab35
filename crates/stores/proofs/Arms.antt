-- What the arms and branches of the stores have in common: a callee's answer and the branch taken decide a test of the
-- definitions. Assumes nothing.
use mathlib.Core.Path.{◌≡◌, refl, ◌∙◌, ap, sym}
use mathlib.Core.List.{List, []}
use mathlib.Core.Bool.{Bool, true, false}
use Prim.Native.Nat.{ℕ, ◌-◌, ◌*◌, ◌%◌, ◌≤◌, ◌<◌}
use native.Mathlib.Omega.{arith}
use lib.ListN.{length}
use lib.Dec.{ltb, leb, lit<, lit≤}
use borrow.Author.Tests.{ltb-false, le-leb}
use Rattle.std.specs.Prelude.{if◌then◌else◌}
use Rattle.std.specs.Prelude.{Option, Some, None, unwrap_or}
use Rattle.model.specs.Base.{bit, byte_of}
use Rattle.model.specs.Region.{vram_size}
use Rattle.model.specs.Video.{obj_vram_base, is_obj_vram, fills}
use Rattle.model.specs.Wait.{size_bytes_of}
use Rattle.model.specs.Store.{landed, put, put_aligned, video_puts, puts_at, video_count}
use Rattle.model.specs.Laws.Places.{Lies}
use Rattle.model.specs.declared.Target.{Target}
use Rattle.model.specs.declared.Target.TheVariants.{Plain, Video, Sram}
use Rattle.model.specs.declared.VideoMemory.{VideoMemory}
use Rattle.model.proofs.Laws.Choice.{choose, either}
use Rattle.model.specs.declared.AccessSize.{AccessSize}
use Rattle.model.specs.declared.AccessSize.TheVariants.{Byte, Half, Word}
use Rattle.model.specs.declared.Part.{Part}
use Rattle.stores.specs.Stored.{Filled, StoredVideo, nothing_stored, target_at, fills_there}
use Rattle.parts.proofs.LentPart.{back, lent_of, IsRange, put_moves, aligned_moves, video_moves, lent_stores}
use Rattle.parts.specs.Stored.{store_report, Stores, whole, same_puts, counting}
use Rattle.parts.specs.declared.Stored.{Stored}
use Rattle.model.specs.declared.VideoMemory.TheVariants.{VideoRam}
use Rattle.video.specs.Actions.{vram_target, vram_class, doubled, fills_halfword, byte_action}
use Rattle.video.specs.declared.VideoTarget.{VideoTarget}
use Rattle.video.specs.declared.VideoTarget.TheVariants.{ObjVram}
use Rattle.video.specs.declared.VideoWriteAction.{VideoWriteAction}
use Rattle.video.specs.declared.VideoWriteAction.TheVariants.{Store, ExpandByteToHalfword, Ignore, Reject}

-- ---- byte stores to video memory

abbrev pub expands : VideoWriteAction → Bool
expands Store = false
expands (ExpandByteToHalfword h) = true
expands Ignore = false
expands Reject = false

action_fills : (t : Bool) (h : ℕ) → expands (if t then ExpandByteToHalfword h else Ignore) ≡ t
action_fills true h = refl
action_fills false h = refl

-- whether the halfword is filled, from the action
pub filled : (t : VideoTarget) (v : ℕ) {x y : VideoWriteAction} → x ≡ byte_action t v → x ≡ y → fills_halfword t ≡ expands y
filled t v p q = sym (action_fills (fills_halfword t) (doubled v)) ∙ ap (λ (z : VideoWriteAction). expands z) (sym p ∙ q)

halfword_case : (t : Bool) (h k : ℕ) → (if t then ExpandByteToHalfword h else Ignore) ≡ ExpandByteToHalfword k → k ≡ h
halfword_case true h k e = cc
halfword_case false h k e = let z : ◌≡◌ {A = Bool} true false = cc in cc

-- the halfword that it is filled with
pub filled_with : (t : VideoTarget) (v : ℕ) {x : VideoWriteAction} {h : ℕ}
    → v < 256 → x ≡ byte_action t v → x ≡ ExpandByteToHalfword h
    → h ≡ 0x0101 * (v % 256)
filled_with t v {x} {h} s p q =
    let e : h ≡ doubled v = halfword_case (fills_halfword t) (doubled v) h (sym p ∙ q) in
    omega arith

-- it is filled, or nothing is stored
pub is_filled : (p : Part) (i v : ℕ) {t : Bool} {h : ℕ} {before after : List ℕ} {r : Stored} → t ≡ true → h ≡ 0x0101 * (v % 256)
    → Stores (put_aligned p i 2 h) 0 before after r → Filled t p i v before after (store_report r.landed 1)
is_filled p i v e f s = rw e (counting 1 (same_puts (ap (λ (n : ℕ). put_aligned p i 2 n) f) s))

-- what no memory takes leaves the store as it was
pub dropped_stores : {s : List ℕ} {r : Stored} → r ≡ nothing_stored → Stores [] 0 s s r
dropped_stores e =
    record { bytes = refl; number = ap (λ (x : Stored). x.landed) e; halfwords = ap (λ (x : Stored). x.halfwords) e }

pub not_filled : (p : Part) (i v : ℕ) {t : Bool} {s : List ℕ} {r : Stored} → t ≡ false → r ≡ nothing_stored
    → Filled t p i v s s r
not_filled p i v e f = rw e (dropped_stores f)

-- ---- the place in VRAM, by its class

within_is : (mode i : ℕ) {m : ℕ} {x : Option VideoTarget} {t : VideoTarget} → m ≡ mode → x ≡ vram_class i m → x ≡ Some t
    → t ≡ vram_target (is_obj_vram mode i)
unfolding vram_class
within_is mode i {m} {x} {t} p e f =
    choose (λ (y : Option VideoTarget). y ≡ Some t → t ≡ vram_target (is_obj_vram mode i)) (ltb i vram_size)
    (λ h g. cc)
    (λ h g. let z : ◌≡◌ {A = ℕ} 0 1 = cc in absurd (omega arith))
    (ap (vram_class i) (sym p) ∙ sym e ∙ f)

base_within : (mode : ℕ) → obj_vram_base mode ≤ vram_size
unfolding obj_vram_base
base_within mode = either (λ (n : ℕ). n ≤ vram_size) (leb mode 2) (lit≤ tt) (lit≤ tt)

-- past its 96 KiB lies what lies in object VRAM, wherever that starts
outside_is : (mode i : ℕ) {m : ℕ} {x : Option VideoTarget} → m ≡ mode
    → x ≡ vram_class i m → x ≡ None → ObjVram ≡ vram_target (is_obj_vram mode i)
unfolding vram_class is_obj_vram
outside_is mode i {m} {x} p e f =
    choose (λ (y : Option VideoTarget). y ≡ None → ObjVram ≡ vram_target (is_obj_vram mode i)) (ltb i vram_size)
    (λ h g. let z : ◌≡◌ {A = ℕ} 0 1 = cc in absurd (omega arith))
    (λ h g. sym (ap vram_target (le-leb (obj_vram_base mode) i (omega (arith, base_within mode, ltb-false i vram_size h)))))
    (ap (vram_class i) (sym p) ∙ sym e ∙ f)

pub unwrapped_is : (mode i : ℕ) {m : ℕ} {x : Option VideoTarget} → m ≡ mode → x ≡ vram_class i m
    → unwrap_or x ObjVram ≡ target_at mode VideoRam i
unwrapped_is mode i {x = Some t} p e = within_is mode i p e refl
unwrapped_is mode i {x = None} p e = outside_is mode i p e refl

-- ---- the bytes of each size

-- a byte store to video memory, from what its place is called
pub byte_video : (mode : ℕ) (k : VideoMemory) (p : Part) (i v : ℕ) {t : VideoTarget} {before after : List ℕ} {r : Stored}
    → t ≡ target_at mode k i → Filled (fills_halfword t) p i (v % 256) before after r
    → Filled (fills mode k i) p i v before after r
byte_video mode k p i v {t} {before} e s =
    let low : v % 256 % 256 ≡ v % 256 = omega arith in
    let f : fills_halfword t ≡ fills mode k i = ap fills_halfword e ∙ fills_there mode k i in
    record {
      bytes = s.bytes ∙ ap (λ (u : Bool). landed before (video_puts u Byte p i (v % 256))) f ∙ rw low;
      number = s.number ∙ ap (λ (u : Bool). length (video_puts u Byte p i (v % 256))) f ∙ rw low;
      halfwords = s.halfwords ∙ ap bit f;
    }

-- ---- SRAM takes one byte: that of the address within the size

pub record Lane (k n : ℕ) : Type 0 where
  pub some : 0 < n
  pub below : k % n < 4

pub lane_small : (a : ℕ) (z : AccessSize) → Lane a (size_bytes_of z)
lane_small a Byte = record { some = lit< tt; below = omega arith }
lane_small a Half = record { some = lit< tt; below = omega arith }
lane_small a Word = record { some = lit< tt; below = omega arith }

pub lane_lands : (p : Part) (i a v : ℕ) (z : AccessSize) {n b : ℕ} {before after : List ℕ} {r : Stored}
    → n ≡ size_bytes_of z → b ≡ byte_of (a % n) v → Stores (put p i b) 0 before after r
    → Stores (put p i (byte_of (a % size_bytes_of z) v)) 0 before after r
lane_lands p i a v z e f s = same_puts (ap (put p i) (f ∙ ap (λ (k : ℕ). byte_of (a % k) v) e)) s

-- ---- what is stored in the memory that is met, which is lent, is stored at its address

module _ (z : AccessSize) (a v mode : ℕ) {t : Target} {p : Part} {i : ℕ} {xs ys : List ℕ} {r : Stored} {from to : ℕ}
    (place : IsRange p from to) where
  pub plain_stored : t ≡ Plain p i → Lies (length xs) t
      → Stores (put_aligned (whole (lent_of xs from to)) i (size_bytes_of z) v) 0 (lent_of xs from to) ys r
      → Stores (puts_at mode z a v t) (video_count mode z t) xs (back xs from (to - from) ys) r
  plain_stored e h s = rw e (lent_stores (aligned_moves i (size_bytes_of z) v) xs p place (rw e at h).end s)

  pub video_stored : {m : ℕ} {k : VideoMemory} → t ≡ Video k p i → Lies (length xs) t → m ≡ mode
      → StoredVideo (fills m k i) z (whole (lent_of xs from to)) i v (lent_of xs from to) ys r
      → Stores (puts_at mode z a v t) (video_count mode z t) xs (back xs from (to - from) ys) r
  video_stored {m = m} {k = k} e h f s =
      rw (e, ← f) (lent_stores (video_moves (fills m k i) z i v) xs p place (rw e at h).end s)

  pub sram_stored : {n b : ℕ} → t ≡ Sram p i → Lies (length xs) t → n ≡ size_bytes_of z → b ≡ byte_of (a % n) v
      → Stores (put (whole (lent_of xs from to)) i b) 0 (lent_of xs from to) ys r
      → Stores (puts_at mode z a v t) (video_count mode z t) xs (back xs from (to - from) ys) r
  sram_stored {b = b} e h f g s =
      rw e (lane_lands p i a v z f g (lent_stores (put_moves i b) xs p place (rw e at h).end s))
