-- Words of the laws in proofs/Laws/Demand3.antt, as definitions. Those laws:
-- The same for every memory, of bytes as lent: every accepted run answers what the definitions have, its total is the sum of the
-- cycles in its answers and lies within its limits; and two of them whose sheets and first boards are alike, over any memories,
-- agree in answer bytes 4 to 10 of every step, but for the hits of WRITE and BLOCK WRITE, and in the total.
use Rattle.std.specs.Prelude.{false}
use Rattle.model.specs.declared.Answer.{Answer}

abbrev pub no_answer : Answer
no_answer = record { value = 0; cycles = 0; hits = 0; count = 0; force = false }
