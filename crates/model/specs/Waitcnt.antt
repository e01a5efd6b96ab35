-- WAITCNT: what a write keeps, and the waits that its fields stand for.
-- From GBATEK, "GBA System Control" (4000204h, WAITCNT); src/bus/waitcnt.rs; docs/RULES.md, "WAITCNT".
use Rattle.std.specs.Prelude.{Bool, List, [], ◌∷◌, ℕ, ◌+◌, ◌*◌, ◌/◌, ◌%◌, get_or, eqb}
use Rattle.std.specs.Prelude.{if◌then◌else◌}
use Rattle.model.specs.Base.{bit}
use Rattle.model.specs.declared.RomWindow.{RomWindow}
use Rattle.model.specs.declared.RomWindow.TheVariants.{Ws0, Ws1, Ws2}

-- after power-on
abbrev pub power_on : ℕ
power_on = 0

-- the register that holds a value of 16 bits: bit 13 is cleared
unfoldable pub from_u16 : ℕ → ℕ
from_u16 v = v % 0x2000 + v / 0x4000 * 0x4000

-- a write keeps bits 0 to 12 and 14 of the value, clears bit 13, and leaves bit 15 of the register (RULES, "WAITCNT")
unfoldable pub written : ℕ → ℕ → ℕ
written old v = v % 0x2000 + v / 0x4000 % 2 * 0x4000 + old / 0x8000 % 2 * 0x8000

-- bit 14: the prefetch switch (RULES, "WAITCNT")
unfoldable pub prefetch_enable : ℕ → Bool
prefetch_enable w = eqb (w / 0x4000 % 2) 1

abbrev pub set_prefetch_enable : Bool → ℕ → ℕ
set_prefetch_enable on w = w % 0x4000 + w / 0x8000 % 2 * 0x8000 + bit on * 0x4000

-- bit 15: the cartridge's type, from its pin
abbrev pub cart_type_cgb : ℕ → Bool
cart_type_cgb w = eqb (w / 0x8000 % 2) 1

abbrev pub set_cart_type_cgb : Bool → ℕ → ℕ
set_cart_type_cgb cgb w = w % 0x8000 + bit cgb * 0x8000

-- bits 11 and 12: the PHI terminal
abbrev pub phi_out : ℕ → ℕ
phi_out w = w / 0x800 % 4

-- the waits of a first access by two bits, and of a second access by one
unfoldable pub n_waits : ℕ → ℕ
n_waits bits = get_or (4 ∷ 3 ∷ 2 ∷ 8 ∷ []) (bits % 4) 0

unfoldable pub s_waits : ℕ → ℕ → ℕ
s_waits slow bits = if eqb (bits % 2) 1 then 1 else slow

-- SRAM: bits 0 and 1 (RULES, "WAITCNT")
abbrev pub sram_waits : ℕ → ℕ
sram_waits w = n_waits w

-- the waits of the ROM: three windows by two kinds of access, first and second
abbrev pub Waits : Type 0
Waits = List (List ℕ)

-- WS0 in bits 2 to 4, WS1 in bits 5 to 7, WS2 in bits 8 to 10
abbrev pub window_nwaits : ℕ → RomWindow → ℕ
window_nwaits w Ws0 = n_waits (w / 0x4)
window_nwaits w Ws1 = n_waits (w / 0x20)
window_nwaits w Ws2 = n_waits (w / 0x100)

abbrev pub window_swaits : ℕ → RomWindow → ℕ
window_swaits w Ws0 = s_waits 2 (w / 0x10)
window_swaits w Ws1 = s_waits 4 (w / 0x80)
window_swaits w Ws2 = s_waits 8 (w / 0x400)

-- those that the register's value stands for (RULES, "WAITCNT")
unfoldable pub rom_waits_of : ℕ → Waits
rom_waits_of w =
    (window_nwaits w Ws0 ∷ window_swaits w Ws0 ∷ [])
    ∷ (window_nwaits w Ws1 ∷ window_swaits w Ws1 ∷ [])
    ∷ (window_nwaits w Ws2 ∷ window_swaits w Ws2 ∷ [])
    ∷ []
