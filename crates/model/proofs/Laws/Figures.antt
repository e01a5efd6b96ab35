-- The starred worked figures of docs/RULES.md, "Figures", joined as one theorem about the definitions. Each starts from the fresh
-- board; where a figure is about a large memory, it holds whatever the memory held.
use Rattle.std.specs.Prelude.{refl}
use Rattle.model.specs.Laws.Figures.{machine, WorkedFigures}

pub worked_figures : WorkedFigures
unfolding machine
worked_figures =
    record {
      ewram_mirror = (refl, refl);
      vram_mirror = (refl, refl);
      waitcnt_bits = refl;
      idle_27 = refl;
      idle_28 = refl;
      arm_in_block = refl;
      arm_at_block = refl;
      dearest = refl;
      pop_at_bc = refl;
      pop_at_ba = refl;
      bx = refl;
      sram_half = λ sram. refl;
      rom_end = refl;
      object_mode_0 = λ vram. (refl, refl);
      bitmap_mode_3 = λ vram. (refl, refl);
      object_mode_3 = λ vram. (refl, refl);
    }
