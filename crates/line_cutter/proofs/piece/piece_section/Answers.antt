use Rattle.std.proofs.Common.{◌≡◌, ◌+◌, ◌-◌, take, drop, sym, ap, ◌∙◌, arith}
use Rattle.std.proofs.lemmas.List.{drop-take}
use Rattle.line_cutter.specs.declared.piece.TheConstants.{WINDOW_END_S}
use Rattle.line_cutter.proofs.piece.piece_section.Goals as goal

pub returns : goal.returns
returns c =
    let blocks = c.args.section.now.blocks in
    let a = c.args.a in
    let b = c.args.b in
    let whole : a + (b - a) ≡ b = omega (arith, c.requires.from) in
    let same : c.from_vec.result ≡ drop a (take b blocks) =
    c.from_vec.ensures ∙ c.in_ok-blocks.ensures.items ∙ ap (λ bs. take (b - a) (drop a bs)) c.slice.ensures
    ∙ sym (drop-take a (b - a) blocks) ∙ ap (λ n. drop a (take n blocks)) whole in
    λ i. record {
      name = c.args.section.now.name;
      from_s = c.args.section.now.from_s;
      to_s = WINDOW_END_S;
      add_percent = c.args.section.now.add_percent;
      blocks = same i;
    }
