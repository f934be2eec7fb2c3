use Rattle.std.proofs.Common.{◌≡◌, ℕ, take, false}
use Rattle.line_tables.specs.KeySet.{holds}
use Rattle.line_tables.specs.Links.{lists_key, repeats_key}
use Rattle.line_tables.proofs.key_set.repeats.Given as goal

-- so far no key stands twice, and the set has the keys
abbrev pub invariant-loop-key : goal.invariant-loop-key
invariant-loop-key l = record {
  no_repeat : repeats_key (take l.key-index l.keys) ≡ false;
  seen : (k : ℕ) → holds l.seen k ≡ lists_key (take l.key-index l.keys) k;
}
