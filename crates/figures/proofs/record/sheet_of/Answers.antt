-- The header is written, and then each turn writes one record more.
use Rattle.std.proofs.Common.{◌≡◌, List, ℕ, ◌*◌, ap, ◌∙◌, arith, rules, length, drop, replicate}
use Rattle.model.specs.Sheet.{record_length, step_of}
use Rattle.model.specs.Laws.WrittenSheet.{header_bytes}
use Rattle.figures.specs.Record.{record_in}
use Rattle.figures.proofs.Sheet.{begin, next, written}
use Rattle.figures.proofs.record.sheet_of.Goals as goal

pub loop-k-init : goal.loop-k-init
loop-k-init g c =
    let header : c.copy_from_slice.new.self ≡ header_bytes 1 (length c.args.listed.records.now) = search rules in
    let rest : length (drop 8 (replicate g.row.L 0)) ≡ record_length * length c.args.listed.records.now = search rules in
    begin _ _ _ header rest

pub loop-k-preserved : goal.loop-k-preserved
loop-k-preserved g c =
    let long : length c.copy_from_slice-in-loop-k.new.self ≡ record_length = search rules in
    next _ c.loop-k.invariant c.loop-k-test.true long _ (omega arith) (omega arith)
    (ap (λ (b : List ℕ). step_of (record_in b)) c.copy_from_slice-in-loop-k.ensures.after ∙ c.to_bytes.ensures)

pub returns-clause-steps : goal.returns-clause-steps
returns-clause-steps g c = written c.loop-k.invariant c.loop-k.auto.k-end c.loop-k-test.false
