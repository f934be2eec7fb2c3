-- How each step changes what a pass knows.
use Rattle.std.specs.Prelude.{ℕ, ◌+◌, ◌-◌, true, false, List, [], ◌∷◌, ◌++◌, length, nat_lt, if◌then◌else◌}
use Rattle.turn_desk.specs.declared.rule.Sight.{Sight}
use Rattle.turn_desk.specs.declared.rule.View.{View}

module _ {E : Type 0} where
  -- nothing seen, by nobody
  abbrev pub blank : Sight E
  blank = record { seen = []; numbers = [] }

  -- a pass that has just been given: it has its number alone
  abbrev pub fresh : ℕ → List E → View E
  fresh number seen = record {
    number = number;
    numbers = number ∷ [];
    seen = seen;
    holds = false;
    closes = false;
    tries = 0;
    found = 0;
    steps = 0;
    moment = 0;
    word = 0;
    drawn = 0;
    left = 0;
    one = blank;
    two = blank;
  }

  abbrev pub first_view : List E → View E
  first_view log = fresh 0 log

  -- the turn is taken at this moment: what the pass has seen is the value's list
  abbrev pub won : ℕ → List E → View E → View E
  won moment log v = record v {
    seen = log;
    holds = true;
    closes = false;
    tries = v.tries + 1;
    found = 0;
    steps = v.steps + 1;
    moment = moment;
    word = 1;
  }

  -- the turn was found taken at this moment
  abbrev pub lost : ℕ → View E → View E
  lost moment v = record v { tries = v.tries + 1; found = 1; steps = v.steps + 1; moment = moment; word = 1 }

  -- The turn is given back at this moment, with this list. The numbers that were issued meanwhile are drawn
  abbrev pub given : (List E → ℕ) → ℕ → List E → View E → View E
  given issued_by moment log v = record v {
    seen = log;
    holds = false;
    closes = false;
    steps = v.steps + 1;
    moment = moment;
    word = 0;
    drawn = issued_by v.seen;
    left = issued_by log - issued_by v.seen;
  }

  -- the turn is kept for ever from this moment on
  abbrev pub closing : ℕ → View E → View E
  closing moment v = record v { closes = true; steps = v.steps + 1; moment = moment; word = 1 }

  -- other numbers are drawn and given to no pass yet
  abbrev pub with_drawn : ℕ → ℕ → View E → View E
  with_drawn drawn left v = record v { drawn = drawn; left = left }

  -- the least drawn number goes to another pass
  abbrev pub one_fewer : View E → View E
  one_fewer v = record v { drawn = v.drawn + 1; left = v.left - 1 }

  abbrev pub newcomer : View E → View E
  newcomer v = fresh v.drawn v.seen

  abbrev pub longer : List E → List E → List E
  longer xs ys = if nat_lt (length xs) (length ys) then ys else xs

  abbrev pub sight : View E → Sight E
  sight v = record { seen = v.seen; numbers = v.numbers }

  -- one pass with the numbers of both and the longer seen part
  abbrev pub joined : View E → View E → View E
  joined v w = record v {
    numbers = v.numbers ++ w.numbers;
    seen = longer v.seen w.seen;
    steps = v.steps + w.steps;
    moment = if nat_lt v.moment w.moment then w.moment else v.moment;
    word = if nat_lt v.moment w.moment then w.word else v.word;
    drawn = 0;
    left = 0;
    one = sight v;
    two = sight w;
  }

  -- a pass that has left: it knows nothing
  abbrev pub spent : View E
  spent = record (fresh 0 []) { numbers = [] }
