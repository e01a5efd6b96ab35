-- The Game Pak prefetch buffer, one idle cycle at a time. Nothing here depends on what the ROM holds but the halfwords
-- (`filled`).
-- From GBATEK, "GBA GamePak Prefetch"; src/bus/prefetch.rs; docs/RULES.md, "WAITCNT", "Restart",
-- "Idle cycles" and "Fetch".
use Rattle.std.specs.Prelude.{Bool, true, false, not, ◌&&◌, List, ℕ, zero, suc, ◌+◌, ◌-◌, ◌%◌, set, eqb, ltb, leb}
use Rattle.std.specs.Prelude.{if◌then◌else◌}
use Rattle.std.specs.Prelude.{Option, Some, None}
use Rattle.model.specs.Base.{further, lowered}
use Rattle.model.specs.Waitcnt.{Waits}
use Rattle.model.specs.Wait.{nonseq_if, window, in_window, rom_half_cycles, rom_half_cycles_at}
use Rattle.model.specs.declared.RomWindow.{RomWindow}
use Rattle.model.specs.declared.PrefetchBuffer.{PrefetchBuffer}
use Rattle.model.specs.declared.AccessKind.TheVariants.{Nonseq}

-- halfwords that the buffer can hold
abbrev pub capacity : ℕ
capacity = 8

-- nothing in it and no beat in flight, with the switch as given
abbrev pub emptied : Bool → PrefetchBuffer
emptied on =
    record {
      head = 0;
      count = 0;
      next_addr = 0;
      wait_left = 0;
      head_addr = 0;
      enabled = on;
      filling = false;
      first_beat = false;
    }

abbrev pub new_buffer : PrefetchBuffer
new_buffer = emptied false

abbrev pub drained : PrefetchBuffer → PrefetchBuffer
drained p = emptied p.enabled

-- the switch, WAITCNT bit 14: to turn it off drains (RULES, "WAITCNT")
unfoldable pub set_enabled : Bool → PrefetchBuffer → PrefetchBuffer
set_enabled true p =
    record {
      head = p.head;
      count = p.count;
      next_addr = p.next_addr;
      wait_left = p.wait_left;
      head_addr = p.head_addr;
      enabled = true;
      filling = p.filling;
      first_beat = p.first_beat;
    }
set_enabled false p = if p.enabled then emptied false else p

-- ---- beats: a beat fetches one halfword from ROM

-- a restart drains and puts a first beat in flight; without a window it leaves the buffer drained
abbrev pub restart_in : Waits → PrefetchBuffer → ℕ → Option RomWindow → PrefetchBuffer
restart_in t p a (Some win) =
    record {
      head = 0;
      count = 0;
      next_addr = lowered 2 a;
      wait_left = rom_half_cycles t win Nonseq;
      head_addr = 0;
      enabled = p.enabled;
      filling = true;
      first_beat = true;
    }
restart_in t p a None = drained p

-- with the switch off it only drains (RULES, "Restart")
unfoldable pub restart : Waits → PrefetchBuffer → ℕ → PrefetchBuffer
restart t p a = if p.enabled then restart_in t p a (window a) else drained p

-- the next beat; it stops where the next address has no window.
-- Departure: GBATEK has one nonsequential beat after a start. A restart leaves `first_beat` set and only the start of the
-- following beat clears it, so that the first two beats are nonsequential.
abbrev pub beat_in : Waits → PrefetchBuffer → Option RomWindow → PrefetchBuffer
beat_in t p (Some win) =
    record {
      head = p.head;
      count = p.count;
      next_addr = p.next_addr;
      wait_left = rom_half_cycles_at t p.next_addr win (nonseq_if p.first_beat);
      head_addr = p.head_addr;
      enabled = p.enabled;
      filling = true;
      first_beat = false;
    }
beat_in t p None =
    record {
      head = p.head;
      count = p.count;
      next_addr = p.next_addr;
      wait_left = p.wait_left;
      head_addr = p.head_addr;
      enabled = p.enabled;
      filling = false;
      first_beat = p.first_beat;
    }

-- by the window of the next address (RULES, "Restart")
unfoldable pub start_beat : Waits → PrefetchBuffer → PrefetchBuffer
start_beat t p = beat_in t p (window p.next_addr)

-- the halfword in flight is in the buffer
unfoldable pub arrived : PrefetchBuffer → PrefetchBuffer
arrived p =
    record {
      head = p.head;
      count = p.count + 1;
      next_addr = further 2 p.next_addr;
      wait_left = 0;
      head_addr = if eqb p.count 0 then p.next_addr else p.head_addr;
      enabled = p.enabled;
      filling = false;
      first_beat = p.first_beat;
    }

-- a beat that ends is followed by the next one, until the buffer is full
unfoldable pub ended : Waits → PrefetchBuffer → PrefetchBuffer
ended t p = if ltb (p.count + 1) capacity then start_beat t (arrived p) else arrived p

-- the buffer with another number of cycles left of its beat
abbrev pub with_wait : ℕ → PrefetchBuffer → PrefetchBuffer
with_wait n p =
    record {
      head = p.head;
      count = p.count;
      next_addr = p.next_addr;
      wait_left = n;
      head_addr = p.head_addr;
      enabled = p.enabled;
      filling = p.filling;
      first_beat = p.first_beat;
    }

-- one cycle of the beat in flight
unfoldable pub advance : Waits → PrefetchBuffer → PrefetchBuffer
advance t p = if leb p.wait_left 1 then ended t p else with_wait (p.wait_left - 1) p

-- ---- idle cycles of the cartridge bus

-- with no beat in flight, room in the buffer and a window to fetch from, a beat starts (RULES, "Idle cycles")
unfoldable pub ready : Waits → PrefetchBuffer → PrefetchBuffer
ready t p = if not p.filling && ltb p.count capacity && in_window p.next_addr then start_beat t p else p

-- one idle cycle
unfoldable pub tick1 : Waits → PrefetchBuffer → PrefetchBuffer
tick1 t p = if p.enabled && (ready t p).filling then advance t (ready t p) else p

-- n idle cycles (RULES, "Idle cycles")
unfoldable pub ticks : Waits → ℕ → PrefetchBuffer → PrefetchBuffer
ticks t zero p = p
ticks t (suc n) p = ticks t n (tick1 t p)

-- whether a halfword arrives in one idle cycle, and in which of the eight places
unfoldable pub arrives : Waits → PrefetchBuffer → Bool
arrives t p = p.enabled && (ready t p).filling && leb (ready t p).wait_left 1

abbrev pub slot : PrefetchBuffer → ℕ
slot p = (p.head + p.count) % capacity

-- the eight halfwords after n idle cycles; `read` is the bus's halfword load (RULES, "Idle cycles")
unfoldable pub filled : (ℕ → ℕ) → Waits → ℕ → PrefetchBuffer → List ℕ → List ℕ
filled read t zero p h = h
filled read t (suc n) p h = filled read t n (tick1 t p) (if arrives t p then set h (slot p) (read p.next_addr) else h)

-- ---- opcode fetches

-- the switch is on and a halfword stands
unfoldable pub occupied : PrefetchBuffer → Bool
occupied p = p.enabled && not (eqb p.count 0)

-- the halfword at an address is the head of the buffer (RULES, "Fetch")
unfoldable pub hit : PrefetchBuffer → ℕ → Bool
hit p a = occupied p && eqb (lowered 2 a) p.head_addr

-- the head's halfword is taken
unfoldable pub taken : PrefetchBuffer → PrefetchBuffer
taken p =
    record {
      head = (p.head + 1) % capacity;
      count = p.count - 1;
      next_addr = p.next_addr;
      wait_left = p.wait_left;
      head_addr = if eqb p.count 1 then 0 else further 2 p.head_addr;
      enabled = p.enabled;
      filling = p.filling;
      first_beat = p.first_beat;
    }

-- a fetch elsewhere drains, but not when the buffer is off or empty (RULES, "Fetch")
unfoldable pub fetched : PrefetchBuffer → ℕ → PrefetchBuffer
fetched p a = if hit p a then taken p else if occupied p then drained p else p
