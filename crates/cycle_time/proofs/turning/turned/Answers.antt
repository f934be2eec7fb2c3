use Rattle.cycle_time.proofs.Turned.{is_turned}
use Rattle.cycle_time.proofs.turning.turned.Goals as goal

pub returns : goal.returns
returns c =
    is_turned c.args.demands.now c.rotate_left.new.self c.reverse.new.self c.in_ok-steps.field-0 c.least_place-least.result
    c.least_place-least.ensures.within c.least_place-least.ensures.least c.rotate_left.ensures.after
    c.rotate_left.ensures.permutation c.reverse.ensures.after c.reverse.ensures.permutation c.in_ok-steps.ensures
