use Rattle.std.proofs.Common.{map, inl}
use Rattle.std.specs.String.{string_bytes}
use Rattle.rail_outside.proofs.Texts.{are_text, told_whole}
use Rattle.capacity.proofs.program.call.Goals as goal

pub returns-in-Ok : goal.returns-in-Ok
returns-in-Ok g c =
    let passed = c.deref-in-Ok in
    let taken = rw c.in-Ok.is at c.take.ensures in
    inl (record {
      words = map string_bytes passed.result.now;
      told_are = told_whole _ _ taken.known (rw passed.ensures.value taken.all);
      text = are_text passed.result.now;
      good = λ bad. let wrong = taken.refused.1 bad in absurd (cc);
      answers = c.run_alone_telling.ensures;
    })

pub returns-in-Ok-2 : goal.returns-in-Ok-2
returns-in-Ok-2 g c =
    let passed = c.deref-in-Ok-2 in
    let taken = rw c.in-Ok.is at c.take.ensures in
    inl (record {
      words = map string_bytes passed.result.now;
      told_are = told_whole _ _ taken.known (rw passed.ensures.value taken.all);
      text = are_text passed.result.now;
      good = λ bad. let wrong = taken.refused.1 bad in absurd (cc);
      answers = c.run_telling.ensures;
    })
