-- The trail follows the clock: what is told from it is what the clock before the step says, and behind the step it follows the
-- clock that the step leaves.
use Rattle.std.specs.Prelude.{◌≡◌, ℕ, zero, suc, ◌+◌, ◌*◌, ◌%◌, ◌^◌, ◌≤◌, Bool, true, false, ◌&&◌, ◌≢◌, ◌++◌, ◌==◌, nat_eq}
use Rattle.std.proofs.Math.Path.{refl, ap}
use Rattle.std.proofs.Common.{sym, ap₂, ◌∙◌, arith}
use Rattle.std.specs.Prelude.{if◌then◌else◌}
use Rattle.std.specs.Prelude.{Option, Some, None}
use Rattle.model.specs.Base.{bit, further, lowered}
use Rattle.model.specs.Waitcnt.{Waits, written, prefetch_enable}
use Rattle.model.specs.Wait.{size_bytes_of, access_size_of, aligned, window, is_in, in_window, force_nonseq, classify_access}
use Rattle.model.specs.Prefetch.{emptied, set_enabled, restart_in, restart, ready, tick1, ticks, arrives}
use Rattle.model.specs.Prefetch.{occupied, hit, taken, fetched}
use Rattle.model.specs.Region.{decode}
use Rattle.model.specs.Price.{previous, access_of, block_previous, kind_after}
use Rattle.model.specs.declared.Previous.{Previous}
use Rattle.model.specs.Price.{wide, BusKind, OnEwram, OnVideo, OnRom, OnSram, OnFast, bus_kind}
use Rattle.model.specs.Timing.{code_size}
use Rattle.model.specs.Step.{waits_of, set_waitcnt, priced, rom_fetched, fetched_in, code_fetched, code_clock, timed, clock_after}
use Rattle.model.specs.Sheet.{step_of}
use Rattle.model.specs.Grounds.{half_ground, kind_ground, first_ground, fetch_grounds_in, fetch_grounds, data_grounds_on, data_grounds}
use Rattle.model.specs.Grounds.{block_grounds, grounds, beat_bytes}
use Rattle.model.proofs.Laws.Choice.{choose, choose₂, by_test, if_false, tests, parts, eqb_ne}
use Rattle.model.specs.Laws.Window.{InRom}
use Rattle.model.proofs.Laws.Window.{true_in_window, window_in}
use Rattle.model.proofs.Laws.Sizes.{aligned_rom}
use Rattle.model.proofs.Laws.Kinds.{by_kind}
use Rattle.model.specs.Laws.Previous.{SoundPrevious}
use Rattle.model.proofs.Laws.Previous.{access_sound, there, rom_kind, some_size}
use Rattle.model.specs.Laws.Grounds.{bus_window}
use Rattle.model.proofs.Laws.Grounds.{bus_window_law}
use Rattle.model.proofs.Laws.Rules.{hit_exactly}
use Rattle.model.specs.Laws.Bounds.{SmallWaits}
use Rattle.model.proofs.Laws.Bounds.{rom_waits_small}
use Rattle.model.specs.Laws.Sound.{Sound, SoundClock}
use Rattle.model.proofs.Laws.Sound.{ready_sound, tick1_sound, fetched_sound}
use Rattle.model.proofs.Laws.Sound.{code_fetched_sound}
use Rattle.model.proofs.Laws.Commits.{ready_same, tick1_one, tick1_none}
use Rattle.model.specs.declared.PrefetchBuffer.{PrefetchBuffer}
use Rattle.model.specs.declared.RomWindow.{RomWindow}
use Rattle.model.specs.declared.Clock.{Clock}
use Rattle.model.specs.declared.Ground.{Ground}
use Rattle.model.specs.declared.Ground.TheVariants.{BufferHit, Sequential, ByFlag, ByBlock, ByAddress}
use Rattle.model.specs.declared.AccessKind.TheVariants.{Nonseq, Seq}
use Rattle.model.specs.declared.AccessSize.{AccessSize}
use Rattle.model.specs.declared.AccessSize.TheVariants.{Word}
use Rattle.model.specs.declared.SheetRecord.{SheetRecord}
use Rattle.model.specs.declared.Version.{Version}
use Rattle.model.specs.declared.Step.{Step}
use Rattle.model.specs.declared.Step.TheVariants.{Read, Write, Waitcnt, Idle, Fetch, Restart, Instruction, Pc, Latch}
use Rattle.model.specs.declared.Step.TheVariants.{BlockRead, BlockWrite}
use Rattle.model.specs.declared.IsaState.{IsaState}
use Rattle.model.specs.declared.IsaState.TheVariants.{Arm, Thumb}
use Rattle.grounds.specs.declared.Trail.{Trail}
use Rattle.grounds.specs.declared.Before.{Before}
use Rattle.grounds.specs.Trail.{nowhere, trail, begins, front_hits, code_front, goes_on_at, ground_at}
use Rattle.grounds.specs.Trail.{data_from, data_next, block_from, block_next}
use Rattle.grounds.specs.Trail.{beats_by, trail_after}

-- ---- the front of a buffer

-- the address of its first halfword, or of the next to come where none stands and one can come
pub record Fronts (h : ℕ) (p : PrefetchBuffer) : Type 0 where
  pub stands : 1 ≤ p.count → h + 2 * p.count ≡ p.next_addr
  pub comes : InRom p.next_addr → h + 2 * p.count ≡ p.next_addr

-- a drained buffer has none
drained_fronts : (h : ℕ) (on : Bool) → Fronts h (emptied on)
drained_fronts h on = record { stands = λ l. absurd (omega arith); comes = λ r. absurd (omega (arith, r.least)) }

-- the buffer of a clock
pub begins_front : (p : PrefetchBuffer) → Sound p → Fronts (if nat_eq p.count 0 then p.next_addr else p.head_addr) p
begins_front p s =
    choose (λ (h : ℕ). Fronts h p) (p.count == 0)
    (λ e. record { stands = λ l. absurd (omega (arith, tests)); comes = λ r. omega (arith, tests) })
    (λ e. record { stands = λ l. (s.stands l).row; comes = λ r. (s.stands (omega (arith, eqb_ne p.count 0 e))).row })

-- a hit is one by the front
pub front_hits_law : (h : ℕ) (p : PrefetchBuffer) → Sound p → Fronts h p → (a : ℕ) → hit p a ≡ front_hits h p.count a
unfolding hit occupied
front_hits_law h p s f a =
    by_test (p.count == 0)
    (λ e. by_test p.enabled (λ on. simp (e, on)) (λ off. simp (e, off)))
    (λ e. by_test p.enabled
    (λ on.
    let some : 1 ≤ p.count = omega (arith, eqb_ne p.count 0 e) in
    let same : p.head_addr ≡ h = omega (arith, (s.stands some).row, f.stands some) in
    simp (e, on, same))
    (λ off. absurd (eqb_ne p.count 0 e (ap (λ (q : PrefetchBuffer). q.count) (s.off off)))))

-- ---- what each operation does to it

module _ (t : Waits) (small : SmallWaits t) (h : ℕ) where
  tick_front : (p : PrefetchBuffer) → Sound p → Fronts h p → Fronts h (tick1 t p)
  unfolding arrives
  tick_front p s f =
      by_test (arrives t p)
      (λ e.
      let on : p.enabled ≡ true = search parts in
      let fills : (ready t p).filling ≡ true = search parts in
      let into : InRom (ready t p).next_addr = ((ready_sound t small p s on).busy fills).into in
      let next : (ready t p).next_addr ≡ p.next_addr = (ready_same t p).next in
      let g = tick1_one t p e in
      let row : h + 2 * (tick1 t p).count ≡ (tick1 t p).next_addr =
      omega (arith, g.count, g.next, f.comes (omega (arith, next, into.least, into.below)), next, into.below) in
      record { stands = λ l. row; comes = λ r. row })
      (λ e.
      let g = tick1_none t p e in
      record {
        stands = λ l. omega (arith, g.count, g.next, f.stands (omega (arith, g.count)));
        comes = λ r. omega (arith, g.count, g.next, f.comes (omega (arith, g.next, r.least, r.below)));
      })

  pub ticks_front : (n : ℕ) (p : PrefetchBuffer) → Sound p → Fronts h p → Fronts h (ticks t n p)
  unfolding ticks
  ticks_front zero p s f = f
  ticks_front (suc n) p s f = ticks_front n (tick1 t p) (tick1_sound t small p s) (tick_front p s f)

pub restart_front : (t : Waits) (p : PrefetchBuffer) (a : ℕ) → Fronts (lowered 2 a) (restart t p a)
unfolding restart
restart_front t p a =
    choose (Fronts (lowered 2 a)) p.enabled (λ e. by (window a)) (λ e. drained_fronts (lowered 2 a) p.enabled)
  where
    by : (v : Option RomWindow) → Fronts (lowered 2 a) (restart_in t p a v)
    by (Some win) = record { stands = λ l. absurd (omega arith); comes = λ r. omega arith }
    by None = drained_fronts (lowered 2 a) p.enabled

pub switch_front : (h : ℕ) (on : Bool) (p : PrefetchBuffer) → Fronts h p → Fronts h (set_enabled on p)
unfolding set_enabled
switch_front h true p f = record { stands = f.stands; comes = f.comes }
switch_front h false p f = choose (Fronts h) p.enabled (λ e. drained_fronts h false) (λ e. f)

-- a hit takes the first halfword, a miss drains or leaves all as it is
hit_front : (h : ℕ) (p : PrefetchBuffer) (a : ℕ) → Fronts h p → hit p a ≡ true → Fronts (h + 2) (fetched p a)
unfolding fetched taken
hit_front h p a f e =
    let some : p.count ≢ 0 = ((hit_exactly p a).0 e).some in
    let row : h + 2 * p.count ≡ p.next_addr = f.stands (omega (arith, some)) in
    rw e (record { stands = λ l. omega (arith, row, some); comes = λ r. omega (arith, row, some) })

miss_front : (h : ℕ) (p : PrefetchBuffer) (a : ℕ) → Fronts h p → hit p a ≡ false → Fronts h (fetched p a)
unfolding fetched
miss_front h p a f e = rw e (choose (Fronts h) (occupied p) (λ o. drained_fronts h p.enabled) (λ o. f))

-- in 32 bits it is the same
pub mod_front : (h : ℕ) (p : PrefetchBuffer) → Sound p → Fronts h p → Fronts (h % 2 ^ 32) p
mod_front h p s f =
    record {
      stands = λ l. omega (arith, f.stands l, s.next<2³²);
      comes = λ r. omega (arith, f.comes r, s.next<2³²);
    }

-- nothing was taken
pub still_front : (h : ℕ) (p : PrefetchBuffer) (taken : ℕ) → Sound p → taken ≡ 0 → Fronts h p → Fronts (further (2 * taken) h) p
still_front h p taken s e f =
    let same : h + 2 * taken ≡ h = omega (arith, e) in
    rw same (mod_front h p s f)

pub fetch_front : (h : ℕ) (p : PrefetchBuffer) (a taken : ℕ) → Sound p → taken ≡ bit (hit p a) → Fronts h p
    → Fronts (further (2 * taken) h) (fetched p a)
fetch_front h p a taken s t f =
    by_test (hit p a)
    (λ e.
    let one : taken ≡ 1 = t ∙ ap bit e in
    let new : h + 2 * taken ≡ h + 2 = omega (arith, one) in
    rw new (mod_front (h + 2) (fetched p a) (fetched_sound p a s) (hit_front h p a f e)))
    (λ e. still_front h (fetched p a) taken (fetched_sound p a s) (t ∙ ap bit e) (miss_front h p a f e))

-- where a half hits, the front stands
hit_there : (h : ℕ) (p : PrefetchBuffer) (a : ℕ) → Sound p → Fronts h p → hit p a ≡ true → h ≡ lowered 2 a
hit_there h p a s f e =
    let k = (hit_exactly p a).0 e in
    let some : 1 ≤ p.count = omega (arith, k.some) in
    omega (arith, (s.stands some).row, f.stands some, k.there)

-- an opcode from ROM, hit or missed, leaves the front behind it
code_front_law : (t : Waits) (h : ℕ) (p : PrefetchBuffer) (a : ℕ) (isa : IsaState) → Sound p → Fronts h p → InRom a
    → Fronts (lowered 2 (further (size_bytes_of (code_size isa)) a)) (rom_fetched t p a isa)
code_front_law t h p a Thumb s f r =
    choose (Fronts (lowered 2 (further 2 a))) (hit p a)
    (λ e.
    let new : lowered 2 (further 2 a) ≡ h + 2 = omega (arith, hit_there h p a s f e, r.below) in
    rw new (hit_front h p a f e))
    (λ e. restart_front t (fetched p a) (further 2 a))
code_front_law t h p a Arm s f r =
    choose (Fronts (lowered 2 (further 4 a))) (hit p a && hit (fetched p a) (further 2 a))
    (λ b.
    let e : hit p a ≡ true = search parts in
    let d : hit (fetched p a) (further 2 a) ≡ true = search parts in
    let new : lowered 2 (further 4 a) ≡ h + 2 + 2 = omega (arith, hit_there h p a s f e, r.below) in
    rw new (hit_front (h + 2) (fetched p a) (further 2 a) (hit_front h p a f e) d))
    (λ b. restart_front t (fetched (fetched p a) (further 2 a)) (further 4 a))

pub code_fronts : (c : Clock) (h : ℕ) (isa : IsaState) (a : ℕ) → Sound c.prefetch → Fronts h c.prefetch
    → Fronts (code_front h isa a) (code_fetched c isa a)
unfolding code_front code_fetched
code_fronts c h isa a s f = by (window a) refl
  where
    by : (v : Option RomWindow) → window a ≡ v
        → Fronts (if is_in v then lowered 2 (further (size_bytes_of (code_size isa)) a) else h)
        (fetched_in (waits_of c) c.prefetch a isa v)
    by (Some win) e = code_front_law (waits_of c) h c.prefetch a isa s f (window_in a win e)
    by None e = f

-- ---- the grounds from the trail

-- those of a fetch go by where the buffer hits
half_same : (hits hits' : ℕ → Bool) (forced : Bool) (a : ℕ) → hits a ≡ hits' a
    → half_ground hits forced a ≡ half_ground hits' forced a
unfolding half_ground
half_same hits hits' forced a e =
    ap (λ (b : Bool). if b then BufferHit else if force_nonseq a then ByBlock else if forced then ByFlag else Sequential) e

pub fetch_same : (hits hits' : ℕ → Bool) (forced : Bool) (isa : IsaState) (a : ℕ) → ((n : ℕ) → hits n ≡ hits' n)
    → fetch_grounds hits forced isa a ≡ fetch_grounds hits' forced isa a
unfolding fetch_grounds
fetch_same hits hits' forced isa a e = by (window a)
  where
    by : (v : Option RomWindow) → fetch_grounds_in hits forced a isa v ≡ fetch_grounds_in hits' forced a isa v
    by (Some win) =
        ap₂ (wide (code_size isa)) (half_same hits hits' forced a (e a))
        (half_same hits hits' false (further 2 a) (e (further 2 a)))
    by None = refl

-- where an access goes on from the previous one
abbrev pub next_of : Previous → Option ℕ
next_of p = if p.size == 0 then nowhere else Some (further p.size p.addr)

-- what a kind without a block comes to
kind_by : (t : Bool) → kind_ground (if t then Seq else Nonseq) ≡ (if t then Sequential else ByAddress)
kind_by true = refl
kind_by false = refl

next_ground : (p : Previous) (n : ℕ) → SoundPrevious p → InRom n → first_ground p n ≡ ground_at (next_of p) n
unfolding first_ground ground_at kind_after classify_access
next_ground p n s r =
    choose₂ (λ (g h : Ground). g ≡ h) (force_nonseq n) (λ b. refl)
    λ b. by_test (p.size == 0)
    (λ e. simp e)
    (λ e.
    let size : size_bytes_of (access_size_of p.size) ≡ p.size = (there p s e).sized in
    let inside : in_window n && force_nonseq n ≡ false = simp (true_in_window n r, b) in
    ap kind_ground (sym (rom_kind p n s r e) ∙ if_false _ _ _ inside)
    ∙ ap (λ (z : ℕ). kind_ground (if nat_eq n (further z p.addr) then Seq else Nonseq)) size
    ∙ kind_by (n == further p.size p.addr)
    ∙ sym (ap (λ (m : Option ℕ). if goes_on_at m n then Sequential else ByAddress) (if_false _ _ _ e)))

pub data_same : (p : Previous) (z : AccessSize) (a : ℕ) → SoundPrevious p → data_from (next_of p) z a ≡ data_grounds p z a
unfolding data_grounds
data_same p z a s = by (bus_kind (decode a)) refl
  where
    by : (b : BusKind) → bus_kind (decode a) ≡ b
        → data_grounds_on z (ground_at (next_of p) (aligned z a)) b ≡ data_grounds_on z (first_ground p (aligned z a)) b
    by OnEwram e = refl
    by OnVideo e = refl
    by (OnRom win) e =
        let rom : InRom a = window_in a win (bus_window_law a ∙ ap bus_window e) in
        ap (λ (g : Ground). wide z g Sequential) (sym (next_ground p (aligned z a) s (aligned_rom z a rom)))
    by OnSram e = refl
    by OnFast e = refl

-- those of a block, word by word: each is the access that the next one goes on from
pub block_same : (p : Previous) (a n : ℕ) → SoundPrevious p → block_from (next_of p) a n ≡ block_grounds p a n
block_same p a zero s = refl
block_same p a (suc n) s =
    ap₂ ◌++◌ (data_same p Word a s) (block_same (access_of Word a) (further 4 a) n (access_sound Word a))

-- and behind it the last one is
pub block_next_law : (p : Previous) (a n : ℕ) → block_next (next_of p) a n ≡ next_of (block_previous p a n)
block_next_law p a zero = refl
block_next_law p a (suc n) = block_next_law (access_of Word a) (further 4 a) n

-- ---- the trail follows the clock

pub record Follows (t : Trail) (c : Clock) : Type 0 where
  pub front : Fronts t.front c.prefetch
  pub next : t.next ≡ next_of (previous c)

pub begins_follows : (c : Clock) → SoundClock c → Follows (begins c) c
unfolding begins
begins_follows c s = record { front = begins_front c.prefetch s.buffer; next = refl }

-- by the hits byte FETCH is told what it takes from the buffer; no other step asks it
abbrev pub Counted : Clock → ℕ → Step → Type 0
Counted c taken (Read z a) = Unit {0}
Counted c taken (Write z a v) = Unit {0}
Counted c taken (Waitcnt v) = Unit {0}
Counted c taken (Idle n) = Unit {0}
Counted c taken (Fetch a) = taken ≡ bit (hit c.prefetch a)
Counted c taken (Restart a) = Unit {0}
Counted c taken (Instruction v isa a op jump) = Unit {0}
Counted c taken (Pc a) = Unit {0}
Counted c taken (Latch v) = Unit {0}
Counted c taken (BlockRead a n) = Unit {0}
Counted c taken (BlockWrite a n) = Unit {0}

-- the hits byte of any record but WRITE and BLOCK WRITE is such
pub counted_hits : (c : Clock) (r : SheetRecord) (taken : ℕ) → (r.kind ≢ 2 → r.kind ≢ 11 → taken ≡ (timed c (step_of r)).hits)
    → Counted c taken (step_of r)
counted_hits c r taken =
    by_kind (λ (k : ℕ) (x : Step). (k ≢ 2 → k ≢ 11 → taken ≡ (timed c x).hits) → Counted c taken x) r
    (λ h. tt) (λ h. tt) (λ h. tt) (λ h. tt) (λ h. h (omega arith) (omega arith)) (λ h. tt) (λ h. tt) (λ h. tt) (λ h. tt)
    (λ h. tt) (λ o h. tt)

module _ (t : Trail) (c : Clock) (b : Before) (taken : ℕ) (s : SoundClock c) (f : Follows t c)
    (e : b ≡ record { count = c.prefetch.count; forced = c.force_next_fetch_n }) where
  -- what is told of a step, and the trail behind it, are what the clock says
  abbrev Right : Step → Type 0
  Right x = (beats_by x t b ≡ beat_bytes (grounds c x)) × Follows (trail_after x t taken) (clock_after c x)

  -- a data access, whether it reads or writes
  data_told : (z : AccessSize) (a : ℕ) → beat_bytes (data_from t.next z a) ≡ beat_bytes (data_grounds (previous c) z a)
  data_told z a =
      ap (λ (m : Option ℕ). beat_bytes (data_from m z a)) f.next ∙ ap beat_bytes (data_same (previous c) z a s.previous)

  goes_on : (z : AccessSize) (a : ℕ)
      → Some (data_next z a) ≡ (if nat_eq (size_bytes_of z) 0 then nowhere else Some (data_next z a))
  goes_on z a = sym (if_false _ _ _ (some_size z))

  waitcnt_follows : (v : ℕ) → Follows (trail_after (Waitcnt v) t taken) (clock_after c (Waitcnt v))
  unfolding ticks set_waitcnt
  waitcnt_follows v =
      record { front = switch_front t.front (prefetch_enable (written c.waitcnt v)) c.prefetch f.front; next = refl }

  idle_follows : (n : ℕ) → Follows t (clock_after c (Idle n))
  idle_follows n =
      record {
        front = ticks_front (waits_of c) (rom_waits_small c.waitcnt) t.front n c.prefetch s.buffer f.front;
        next = f.next;
      }

  -- an instruction
  code_told : (isa : IsaState) (a : ℕ)
      → fetch_grounds (front_hits t.front b.count) b.forced isa a
      ≡ fetch_grounds (hit c.prefetch) c.force_next_fetch_n isa a
  code_told isa a =
      ap (λ (x : Before). fetch_grounds (front_hits t.front x.count) x.forced isa a) e
      ∙ sym (fetch_same (hit c.prefetch) (front_hits t.front c.prefetch.count) c.force_next_fetch_n isa a
      (front_hits_law t.front c.prefetch s.buffer f.front))

  code_follows : (v : Version) (isa : IsaState) (a op : ℕ) (jump : Bool)
      → Follows (trail (code_front t.front isa a) nowhere) (clock_after c (Instruction v isa a op jump))
  unfolding code_clock
  code_follows v isa a op jump =
      record {
        front =
            ticks_front (waits_of c) (rom_waits_small c.waitcnt) (code_front t.front isa a)
            (priced c v isa a op jump).cart_idle (code_fetched c isa a) (code_fetched_sound c isa a s)
            (code_fronts c t.front isa a s.buffer f.front);
        next = refl;
      }

  -- a block, whether it reads or writes
  block_told : (a n : ℕ) → beat_bytes (block_from t.next a n) ≡ beat_bytes (block_grounds (previous c) a n)
  block_told a n =
      ap (λ (m : Option ℕ). beat_bytes (block_from m a n)) f.next ∙ ap beat_bytes (block_same (previous c) a n s.previous)

  block_follows : (a n : ℕ) → block_next t.next a n ≡ next_of (block_previous (previous c) a n)
  block_follows a n = ap (λ (m : Option ℕ). block_next m a n) f.next ∙ block_next_law (previous c) a n

  -- each step
  read_right : (z : AccessSize) (a : ℕ) → Right (Read z a)
  unfolding ticks
  read_right z a = (data_told z a, record { front = f.front; next = goes_on z a })

  write_right : (z : AccessSize) (a v : ℕ) → Right (Write z a v)
  unfolding ticks
  write_right z a v = (data_told z a, record { front = f.front; next = goes_on z a })

  waitcnt_right : (v : ℕ) → Right (Waitcnt v)
  waitcnt_right v = (refl, waitcnt_follows v)

  idle_right : (n : ℕ) → Right (Idle n)
  idle_right n = (refl, idle_follows n)

  fetch_right : (a : ℕ) → taken ≡ bit (hit c.prefetch a) → Right (Fetch a)
  unfolding ticks
  fetch_right a h = (refl, record { front = fetch_front t.front c.prefetch a taken s.buffer h f.front; next = refl })

  restart_right : (a : ℕ) → Right (Restart a)
  unfolding ticks
  restart_right a = (refl, record { front = restart_front (waits_of c) c.prefetch a; next = refl })

  code_right : (v : Version) (isa : IsaState) (a op : ℕ) (jump : Bool) → Right (Instruction v isa a op jump)
  code_right v isa a op jump = (ap beat_bytes (code_told isa a), code_follows v isa a op jump)

  pc_right : (a : ℕ) → Right (Pc a)
  unfolding ticks
  pc_right a = (refl, record { front = f.front; next = f.next })

  latch_right : (v : ℕ) → Right (Latch v)
  unfolding ticks
  latch_right v = (refl, record { front = f.front; next = f.next })

  block_read_right : (a n : ℕ) → Right (BlockRead a n)
  unfolding ticks
  block_read_right a n = (block_told a n, record { front = f.front; next = block_follows a n })

  block_write_right : (a n : ℕ) → Right (BlockWrite a n)
  unfolding ticks
  block_write_right a n = (block_told a n, record { front = f.front; next = block_follows a n })

  pub follows : (x : Step) → Counted c taken x → Right x
  follows (Read z a) h = read_right z a
  follows (Write z a v) h = write_right z a v
  follows (Waitcnt v) h = waitcnt_right v
  follows (Idle n) h = idle_right n
  follows (Fetch a) h = fetch_right a h
  follows (Restart a) h = restart_right a
  follows (Instruction v isa a op jump) h = code_right v isa a op jump
  follows (Pc a) h = pc_right a
  follows (Latch v) h = latch_right v
  follows (BlockRead a n) h = block_read_right a n
  follows (BlockWrite a n) h = block_write_right a n
