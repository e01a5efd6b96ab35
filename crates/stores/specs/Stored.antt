-- What each store does and reports, by size and memory: cases of the one contract `Stores`; and which video target a place is.
use Rattle.std.specs.Prelude.{◌≡◌, refl, Bool, true, false, not, List, ℕ, length}
use Rattle.model.specs.Memory.{lengths_sum}
use Rattle.model.specs.Base.{bit}
use Rattle.model.specs.Video.{is_obj_vram, fills}
use Rattle.model.specs.Wait.{size_bytes_of}
use Rattle.model.specs.Store.{mode_of, put_aligned, video_puts, puts_at, halfwords, video_count}
use Rattle.model.specs.Laws.Places.{Lies}
use Rattle.model.specs.declared.AccessSize.{AccessSize}
use Rattle.model.specs.declared.AccessSize.TheVariants.{Byte, Word}
use Rattle.model.specs.declared.Lengths.{Lengths}
use Rattle.model.specs.declared.Part.{Part}
use Rattle.model.specs.declared.Target.{Target}
use Rattle.model.specs.declared.Target.TheVariants.{Unused, SystemRom, GamePakRom, Plain, Video, Sram}
use Rattle.model.specs.declared.VideoMemory.{VideoMemory}
use Rattle.model.specs.declared.VideoMemory.TheVariants.{PaletteRam, VideoRam, ObjectRam}
use Rattle.parts.specs.Stored.{store_report, Stores}
use Rattle.parts.specs.declared.Stored.{Stored}
use Rattle.video.specs.Actions.{vram_target, fills_halfword}
use Rattle.video.specs.declared.VideoTarget.{VideoTarget}
use Rattle.video.specs.declared.VideoTarget.TheVariants.{Palette, Oam}

-- no byte landed, and no halfword counts
abbrev pub nothing_stored : Stored
nothing_stored = store_report 0 0

-- which video target stands at a place of a memory: in VRAM the background's or the objects', by the display mode. What lies past
-- VRAM's end lies past where object VRAM starts, and is called the same
abbrev pub target_at : ℕ → VideoMemory → ℕ → VideoTarget
target_at mode PaletteRam i = Palette
target_at mode VideoRam i = vram_target (is_obj_vram mode i)
target_at mode ObjectRam i = Oam

-- a byte that is stored there fills its halfword where the model says so
vram_fills : (objects : Bool) → fills_halfword (vram_target objects) ≡ not objects
vram_fills true = refl
vram_fills false = refl

pub fills_there : (mode : ℕ) (k : VideoMemory) (i : ℕ) → fills_halfword (target_at mode k i) ≡ fills mode k i
fills_there mode PaletteRam i = refl
fills_there mode VideoRam i = vram_fills (is_obj_vram mode i)
fills_there mode ObjectRam i = refl

-- a byte store to video memory that fills its halfword, or doesn't
abbrev pub Filled : Bool → Part → ℕ → ℕ → List ℕ → List ℕ → Stored → Type 0
Filled fill p i v before after r = Stores (video_puts fill Byte p i v) (bit fill) before after r

-- a store of any size to video memory, whose byte fills its halfword, or doesn't
abbrev pub StoredVideo : Bool → AccessSize → Part → ℕ → ℕ → List ℕ → List ℕ → Stored → Type 0
StoredVideo fill z p i v before after r = Stores (video_puts fill z p i v) (halfwords fill z) before after r

-- a store to EWRAM, IWRAM or I/O: all its bytes, aligned
abbrev pub StoredPlain : AccessSize → Part → ℕ → ℕ → List ℕ → List ℕ → Stored → Type 0
StoredPlain z p i v before after r = Stores (put_aligned p i (size_bytes_of z) v) 0 before after r

-- a store of a value at an address that meets a memory, in the display mode of its moment
abbrev pub StoredAt : AccessSize → ℕ → ℕ → Target → Lengths → List ℕ → List ℕ → Stored → Type 0
StoredAt z a v t l before after r =
    Stores (puts_at (mode_of l before) z a v t) (video_count (mode_of l before) z t) before after r

-- a word, which no display mode moves
abbrev pub StoredWord : ℕ → ℕ → Target → List ℕ → List ℕ → Stored → Type 0
StoredWord a v t before after r = (mode : ℕ) → Stores (puts_at mode Word a v t) (video_count mode Word t) before after r

-- so a word that is stored in the mode of its moment is stored in any
pub word_stored : (a v : ℕ) (t : Target) (l : Lengths) {before after : List ℕ} {r : Stored}
    → StoredAt Word a v t l before after r → StoredWord a v t before after r
word_stored a v Unused l s = λ mode. s
word_stored a v SystemRom l s = λ mode. s
word_stored a v GamePakRom l s = λ mode. s
word_stored a v (Plain p i) l s = λ mode. s
word_stored a v (Video m p i) l s = λ mode. s
word_stored a v (Sram p i) l s = λ mode. s

-- a memory that is met, in a store of these lengths
pub record Storable (t : Target) (l : Lengths) (store : List ℕ) : Type 0 where
  pub memory : Lies (length store) t
  pub whole : lengths_sum l ≡ length store
