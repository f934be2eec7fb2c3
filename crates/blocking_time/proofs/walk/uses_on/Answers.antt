use Rattle.std.proofs.Common.{◌≡◌, ◌+◌, ◌∙◌, cond, false, get_or, [], ◌∷◌, ◌++◌, map, ap, sym, arith}
use Rattle.std.specs.Prelude.{filter}
use Rattle.std.specs.List.{range_with_len}
use Rattle.std.proofs.lemmas.List.{append-nil}
use Rattle.std.proofs.lemmas.List.Elements.{filter-append}
use Rattle.std.proofs.lemmas.List.FromFn.{map-range_with_len_more}
use Rattle.rail_model.specs.declared.path.Hop.{Hop}
use Rattle.rail_model.specs.declared.stair.Use.{Use}
use Rattle.rail_model.specs.Blocking.{use_of}
use Rattle.blocking_time.specs.Blocking.{uses_on}
use Rattle.blocking_time.proofs.walk.uses_on.Goals as goal
use Rattle.blocking_time.proofs.walk.uses_on.Goals.{then-is_wanted+in_ok-push, else-is_wanted}

pub loop-done-preserved : goal.loop-done-preserved
loop-done-preserved c =
    let path = c.args.path.now in
    let wanted = c.args.wanted.now in
    let done = c.loop-done.done in
    let uses = map (use_of path) (range_with_len 1 done) in
    let one = use_of path (done + 1) in
    let test = λ (u : Use). get_or wanted u.block false in
    let told : c.is_wanted.result ≡ test one = c.is_wanted.ensures ∙ ap (λ (h : Hop). get_or wanted h.block false) c.hop_at-hop.ensures.hop in
    let more : uses_on wanted (map (use_of path) (range_with_len 1 (done + 1))) ≡ uses_on wanted uses ++ cond c.is_wanted.result (one ∷ []) [] =
    ap (filter test) (map-range_with_len_more (use_of path) 1 done (done + 1) (omega arith))
    ∙ filter-append test uses (one ∷ []) ∙ ap (λ b. uses_on wanted uses ++ cond b (one ∷ []) []) (sym told) in
    record {
      uses = elim c.if-is_wanted.branch [
        | then-is_wanted+in_ok-push w ↦
            rw (w.uses-is, w.in_ok-push.ensures.items, c.loop-done.invariant.uses, w.use_in.ensures)
            (sym (more ∙ ap (λ b. uses_on wanted uses ++ cond b (one ∷ []) []) w.if-is_wanted.true))
        | else-is_wanted w ↦
            rw (w.uses-is, c.loop-done.invariant.uses)
            (sym (more ∙ ap (λ b. uses_on wanted uses ++ cond b (one ∷ []) []) w.if-is_wanted.false ∙ append-nil (uses_on wanted uses)))
      ];
      stop = c.next_stop-stop.ensures;
    }
