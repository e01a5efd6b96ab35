-- Words of the laws in proofs/Laws/WrittenOut.antt, as definitions. Those laws:
-- A block is its words, over records: the run of a sheet's records is that of the records in which each block is written out as
-- so many READ 4, or WRITE 4 of 0, and each answer is made of those of its words.
use Rattle.std.specs.Prelude.{List, [], ◌∷◌, ◌++◌, ℕ, zero, suc, ◌-◌, length, take, drop, get_or, eqb}
use Rattle.std.specs.Prelude.{if◌then◌else◌}
use Rattle.model.specs.Base.{sum, further}
use Rattle.model.specs.Wait.{aligned}
use Rattle.model.specs.Step.{cycles_in}
use Rattle.model.specs.Sheet.{is_block}
use Rattle.model.specs.Laws.Demand3.{no_answer}
use Rattle.model.specs.Laws.Blocks.{hits_sum, last_value}
use Rattle.model.specs.declared.AccessSize.TheVariants.{Word}
use Rattle.model.specs.declared.Answer.{Answer}
use Rattle.model.specs.declared.SheetRecord.{SheetRecord}
use Rattle.model.specs.declared.Version.{Version}

-- ---- the records

-- a READ (kind 1) of size 4, or a WRITE (kind 2) of size 4 that stores 0
abbrev pub word_record : Version → ℕ → ℕ → SheetRecord
word_record v kind a =
    record {
      version = v;
      kind = kind;
      size = 4;
      flag = 0;
      zero_byte = 0;
      address = a;
      value = 0;
    }

-- so many, at rising addresses, modulo 2^32
abbrev pub word_records : Version → ℕ → ℕ → ℕ → List SheetRecord
word_records v kind a zero = []
word_records v kind a (suc n) = word_record v kind a ∷ word_records v kind (further 4 a) n

-- a BLOCK READ (10) has as many words as its value says, from its address lowered to a multiple of 4 on, and so has a BLOCK
-- WRITE (11); any other record is itself
abbrev pub written_as : SheetRecord → List SheetRecord
written_as r =
    if eqb r.kind 10 then word_records r.version 1 (aligned Word r.address) r.value
    else if eqb r.kind 11 then word_records r.version 2 (aligned Word r.address) r.value
    else r ∷ []

abbrev pub written_out : List SheetRecord → List SheetRecord
written_out [] = []
written_out (r ∷ rs) = written_as r ++ written_out rs

-- as many as its value says, of a block; 1 of any other record
abbrev pub words_in : SheetRecord → ℕ
words_in r = if is_block r.kind then r.value else 1

-- ---- where the words of a record stand

-- so many are written out for the first k records
abbrev pub words_before : List SheetRecord → ℕ → ℕ
words_before rs k = length (written_out (take k rs))

-- the words of record k, in a list of something for each record that is written out: from where the words of those before it
-- end to where its own end
abbrev pub words_at : {A : Type 0} → List SheetRecord → ℕ → List A → List A
words_at rs k xs = take (words_before rs (suc k) - words_before rs k) (drop (words_before rs k) xs)

-- n entries of a list from number k on, or `d` past its end
abbrev pub picked : {A : Type 0} → List A → A → ℕ → ℕ → List A
picked xs d k zero = []
picked xs d k (suc n) = get_or xs k d ∷ picked xs d (suc k) n

-- ---- what answers make together

-- the last one, or `x` of none
abbrev pub last_answer : Answer → List Answer → Answer
last_answer x [] = x
last_answer x (y ∷ ys) = last_answer y ys

-- cycles and hits are sums; value, prefetch count and force flag are the last one's
abbrev pub joined_answer : List Answer → Answer
joined_answer xs =
    record {
      value = last_value 0 xs;
      cycles = sum (cycles_in xs);
      hits = hits_sum xs;
      count = (last_answer no_answer xs).count;
      force = (last_answer no_answer xs).force;
    }
