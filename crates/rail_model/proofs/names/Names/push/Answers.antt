use Rattle.std.proofs.Common.{◌≡◌, ℕ, ◌+◌, ◌-◌, List, [], ◌∷◌, ◌++◌, length, replicate, sym, ap, ◌∙◌, arith, length-append, append_assoc}
use Rattle.std.proofs.lemmas.List.{take_at}
use Rattle.rail_model.proofs.NameAdded.{is_short, last_is, added, are_still}
use Rattle.rail_model.proofs.names.Names.push.Goals as goal

-- the name ends where the bytes then do
end_is : (c : goal.After-push_reserved) → c.in-Some.end ≡ length c.self.inside.bytes.items + length c.args.name.now
end_is c =
    let its_start = last_is c.self.inside.starts.items c.self.inside.bytes.items c.len.result c.index-start.result.now c.self.invariant (omega (arith, c.len.ensures)) c.index-start.ensures in
    omega (arith, c.in-Some.ensures.1, its_start, ap length c.bytes.ensures.same)

-- without the zeros behind it the name stands behind the others
own_bytes : (c : goal.After-push_reserved) → c.truncate.new.self.items ≡ c.self.inside.bytes.items ++ c.args.name.now
own_bytes c =
    let bytes = c.self.inside.bytes.items in
    rw (c.truncate.ensures.items, c.in_ok-extend_from_slice.ensures.items, c.with_zeros.ensures, sym (append_assoc bytes c.args.name.now (replicate (64 - length c.args.name.now) 0)))
    (take_at (bytes ++ c.args.name.now) (replicate (64 - length c.args.name.now) 0) c.in-Some.end (omega (arith, end_is c, length-append bytes c.args.name.now)))

pub overflow_cast-bytes : goal.overflow_cast-bytes
overflow_cast-bytes c = omega (arith, ap length c.bytes.ensures.same, is_short c.args.name.now c.bytes.ensures.named)

pub invariant_of-self-2 : goal.invariant_of-self-2
invariant_of-self-2 c =
    rw (c.push_reserved.ensures.items, c.in_ok-reserve.ensures.items, own_bytes c)
    (are_still c.self.inside.starts.items c.self.inside.bytes.items c.args.name.now c.in-Some.end c.self.invariant (end_is c) c.bytes.ensures.named)

pub returns-clause-ok : goal.returns-clause-ok
returns-clause-ok c =
    rw (c.push_reserved.ensures.items, c.in_ok-reserve.ensures.items, own_bytes c)
    (sym (added c.self.inside.starts.items c.self.inside.bytes.items c.args.name.now c.in-Some.end c.self.invariant (end_is c))
    ∙ ap (λ (ns : List (List ℕ)). ns ++ c.args.name.now ∷ []) c.self.view_is)
