use Rattle.std.proofs.Common.{◌≡◌, ◌+◌, ◌-◌, length, take, drop, arith}
use Rattle.std.proofs.lemmas.List.{length-drop, length-take-le}
use Rattle.row_text.proofs.Digits.{take-part}
use Rattle.row_text.proofs.put.put_piece.Goals as goal

pub returns-then-text-used-ge-SHORT-clause-written : goal.returns-then-text-used-ge-SHORT-clause-written
returns-then-text-used-ge-SHORT-clause-written c =
    let bytes = c.args.bytes.now in
    let start = c.args.start in
    let eight : (start + 8) - start ≡ 8 = omega arith in
    let size : length (take 8 (drop start bytes)) ≡ 8 = length-take-le 8 (drop start bytes) (omega (arith, length-drop start bytes, c.if-bytes-start-ge-SHORT.true)) in
    take-part c.args.text.now c.put_bytes.new.text bytes c.args.used start c.args.len 8 (omega (arith, c.requires.room)) (omega arith)
    (rw (c.put_bytes.ensures.end, eight, size) at c.put_bytes.ensures.written)
