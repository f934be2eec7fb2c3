-- The row that spells a line spells it again.
use Rattle.std.proofs.Common.{◌≡◌, ℕ, suc, ◌+◌, ◌-◌, ◌%◌, ◌<◌, ◌≤◌, Bool, true, false, ◌&&◌, ◌==◌, nat_lt, nat_le, List, [], ◌∷◌, length, drop, map, Result, Ok, IfOk, Some, refl, sym, ap, ◌∙◌, subst, inl, inr, arith}
use Rattle.std.specs.List.{list_all}
use Rattle.std.proofs.lemmas.Bool.{cases_Bool, and_parts, leb-true, le-ltb, false≢true}
use Rattle.std.specs.Option.{ok_or}
use Rattle.rail_model.specs.declared.form.Form.{Form}
use Rattle.rail_model.specs.declared.form.Form.TheVariants as form
use Rattle.rail_model.specs.declared.edit.Kind.{Kind}
use Rattle.rail_model.specs.declared.edit.Kind.TheVariants as kind
use Rattle.rail_model.specs.declared.edit.Edit.TheVariants as edit
use Rattle.rail_model.specs.declared.items.Leg.{Leg}
use Rattle.rail_model.specs.declared.items.Item.{Item}
use Rattle.rail_model.specs.declared.items.Item.TheVariants as item
use Rattle.row_text.specs.declared.line.Line.{Line}
use Rattle.row_text.specs.declared.line.Line.TheVariants as line
use Rattle.row_text.specs.declared.word.Word.{Word}
use Rattle.row_text.specs.declared.word.Word.TheVariants as word
use Rattle.rail_model.specs.Rules.{kind_of_item}
use Rattle.rail_model.specs.Within.{is_from_one}
use Rattle.row_text.specs.SheetRows.{Row, field}
use Rattle.row_text.specs.Words.{name_in, time_in, kind_shape, shape_of, word_text, word_of, allows}
use Rattle.row_text.specs.Lines.{read_each, legs_of, differences, falls, run_legs, legs_in, item_in, line_of, read_in, leg_times, sums, run_times, time_text, item_fields, row_in, has_clock_times, has_times_in, IsSpelled}
use Rattle.std.proofs.lemmas.List.{length-map}
use Rattle.row_text.proofs.Numbers.{number_in-decimal, rate_in-decimal, time_in-text}
use Rattle.row_text.proofs.Says.{Name, Number, Rate, Time, Says, Each, bind-ok, name-ok, number-ok, rate-ok, time-ok, names-ok, times-ok}

-- the times of legs are those that they were made of, where the last leg has no dwell time
leg_times-cons : (leg : Leg) (x : ℕ) (times : List ℕ) → leg_times (leg ∷ legs_of (x ∷ times)) ≡ leg.running_s ∷ leg.dwell_s ∷ leg_times (legs_of (x ∷ times))
leg_times-cons leg x [] = refl
leg_times-cons leg x (y ∷ times) = refl

leg_times-legs_of : (times : List ℕ) → (length times % 2 == 1) ≡ true → leg_times (legs_of times) ≡ times
leg_times-legs_of [] odd = absurd (false≢true odd)
leg_times-legs_of (r ∷ []) odd = refl
leg_times-legs_of (r ∷ d ∷ []) odd = absurd (false≢true odd)
leg_times-legs_of (r ∷ d ∷ x ∷ times) odd =
    let two : length (r ∷ d ∷ x ∷ times) % 2 ≡ length (x ∷ times) % 2 = omega arith in
    let rest : (length (x ∷ times) % 2 == 1) ≡ true = rw two at odd in
    leg_times-cons (record { running_s = r; dwell_s = d }) x times ∙ ap (λ more. r ∷ d ∷ more) (leg_times-legs_of (x ∷ times) rest)

-- steps do not fall, and are the differences of their sums
falls-sums : (before : ℕ) (steps : List ℕ) → falls before (sums before steps) ≡ false
falls-sums before [] = refl
falls-sums before (step ∷ steps) = rw (le-ltb (before + step) before (omega arith)) (falls-sums (before + step) steps)

differences-sums : (before : ℕ) (steps : List ℕ) → differences before (sums before steps) ≡ steps
differences-sums before [] = refl
differences-sums before (step ∷ steps) =
    let own : before + step - before ≡ step = omega arith in
    rw (own, differences-sums (before + step) steps) refl

length-sums : (before : ℕ) (steps : List ℕ) → length (sums before steps) ≡ length steps
length-sums before [] = refl
length-sums before (step ∷ steps) = ap suc (length-sums (before + step) steps)

length-differences : (before : ℕ) (times : List ℕ) → length (differences before times) ≡ length times
length-differences before [] = refl
length-differences before (time ∷ times) = ap suc (length-differences time times)

Each-differences : (before : ℕ) (times : List ℕ) → Each (Says Time) times → Each (Says Time) (differences before times)
Each-differences before [] each = tt
Each-differences before (time ∷ times) each = let small = each.0 in (omega arith, Each-differences time times each.1)

Each-list_all : (test : ℕ → Bool) (P : ℕ → Type 0) → ((x : ℕ) → test x ≡ true → P x) → (xs : List ℕ) → list_all test xs ≡ true → Each P xs
Each-list_all test P tells [] all = tt
Each-list_all test P tells (x ∷ xs) all = let both = and_parts (test x) (list_all test xs) all in (tells x both.0, Each-list_all test P tells xs both.1)

-- texts that are each read back are read back together
read_each-map : {A : Type 0} (of : List ℕ → Result A Form) (text : A → List ℕ) (P : A → Type 0) → ((x : A) → P x → of (text x) ≡ Ok x) → (xs : List A) → Each P xs → read_each of (map text xs) ≡ Ok xs
read_each-map of text P again [] each = refl
read_each-map of text P again (x ∷ xs) each = rw (again x each.0, read_each-map of text P again xs each.1) refl

read_each-names : (names : List (List ℕ)) → Each (Says Name) names → read_each name_in names ≡ Ok names
read_each-names [] each = refl
read_each-names (n ∷ names) each = rw (each.0, read_each-names names each.1) refl

-- each word is read back
word_of-text : (w : Word) → word_of (word_text w) ≡ Some w
unfolding word_of
word_of-text (word.Put kind.Block) = refl
word_of-text (word.Put kind.Signal) = refl
word_of-text (word.Put kind.Route) = refl
word_of-text (word.Put kind.Run) = refl
word_of-text (word.Put kind.Section) = refl
word_of-text (word.Put kind.Connection) = refl
word_of-text (word.Change kind.Block) = refl
word_of-text (word.Change kind.Signal) = refl
word_of-text (word.Change kind.Route) = refl
word_of-text (word.Change kind.Run) = refl
word_of-text (word.Change kind.Section) = refl
word_of-text (word.Change kind.Connection) = refl
word_of-text (word.Drop kind.Block) = refl
word_of-text (word.Drop kind.Signal) = refl
word_of-text (word.Drop kind.Route) = refl
word_of-text (word.Drop kind.Run) = refl
word_of-text (word.Drop kind.Section) = refl
word_of-text (word.Drop kind.Connection) = refl
word_of-text word.Ask = refl
word_of-text word.Planner = refl

-- how many names, and how many times, may stand at the end of a row
abbrev few_names : ℕ → Bool
few_names n = is_from_one n 256

abbrev few_times : ℕ → Bool
few_times n = (n % 2 == 1) && nat_lt n 512

-- what an item has that a row spells
abbrev IsItem : Item → Type 0
IsItem (item.Block b) = Says Name b.name × Says Number b.length_m
IsItem (item.Signal s) = Says Name s.name × Says Name s.block × Says Number s.approach_m × Says Number s.watch_s × Says Number s.form_s × Says Number s.overlap_m × Says Number s.release_s
IsItem (item.Route r) = Says Name r.name × Each (Says Name) r.signals × (few_names (length r.signals) ≡ true)
IsItem (item.Run r) = Says Name r.name × Says Name r.route × Says Number r.length_m × Says Number r.tail_s × Says Time r.start_s
    × (times : List ℕ) × (r.legs ≡ legs_of times) × Each (Says Time) times × (few_times (length times) ≡ true)
IsItem (item.Section s) = Says Name s.name × Says Time s.from_s × Says Time s.to_s × Says Rate s.add_percent × Each (Says Name) s.blocks × (few_names (length s.blocks) ≡ true)
IsItem (item.Connection c) = Says Name c.name × Says Name c.first × Says Name c.second × Says Number c.minimum_s

-- the times that a run's legs are made of
run_legs-made : (version start : ℕ) (times : List ℕ) (legs : List Leg) → Each (Says Time) times → few_times (length times) ≡ true → run_legs version start times ≡ Ok legs
    → (steps : List ℕ) × (legs ≡ legs_of steps) × Each (Says Time) steps × (few_times (length steps) ≡ true)
run_legs-made version start times legs each few e = elim (cases_Bool (version == 2)) [
  | inl second ↦ elim (cases_Bool (falls start times)) [
    | inl down ↦ absurd (cc (rw (second, down) at e))
    | inr up ↦
        let same : legs ≡ legs_of (differences start times) = cc (rw (second, up) at e) in
        (differences start times, same, Each-differences start times each, rw (length-differences start times) few)
  ]
  | inr first ↦
      let same : legs ≡ legs_of times = cc (rw first at e) in
      (times, same, each, few)
]

-- as many fields follow as may
few-after : (few : ℕ → Bool) (row : Row) (fields n : ℕ) → few (length row - 1 - fields) ≡ true → length row - (fields + 1) ≡ n → few n ≡ true
few-after few row fields n allowed count =
    let same : length row - 1 - fields ≡ n = omega (arith, count) in
    subst (λ m. few m ≡ true) same allowed

-- the item that a row spells
item-says : (version : ℕ) (k : Kind) (row : Row) (x : Item) → allows (kind_shape k) (length row) ≡ true → item_in version k row ≡ Ok x → IsItem x
item-says version kind.Block row x allowed e =
    let name = name-ok (field row 1) _ x e in
    let length_m = number-ok (field row 2) _ x name.2 in
    subst (λ r. IfOk r IsItem) length_m.2 (name.1, length_m.1)
item-says version kind.Signal row x allowed e =
    let name = name-ok (field row 1) _ x e in
    let block = name-ok (field row 2) _ x name.2 in
    let approach_m = number-ok (field row 3) _ x block.2 in
    let watch_s = number-ok (field row 4) _ x approach_m.2 in
    let form_s = number-ok (field row 5) _ x watch_s.2 in
    let overlap_m = number-ok (field row 6) _ x form_s.2 in
    let release_s = number-ok (field row 7) _ x overlap_m.2 in
    subst (λ r. IfOk r IsItem) release_s.2 (name.1, block.1, approach_m.1, watch_s.1, form_s.1, overlap_m.1, release_s.1)
item-says version kind.Route row x allowed e =
    let name = name-ok (field row 1) _ x e in
    let signals = names-ok row 2 _ x name.2 in
    subst (λ r. IfOk r IsItem) signals.3 (name.1, signals.1, few-after few_names row 1 (length signals.0) allowed signals.2)
item-says version kind.Run row x allowed e =
    let name = name-ok (field row 1) _ x e in
    let route = name-ok (field row 2) _ x name.2 in
    let length_m = number-ok (field row 3) _ x route.2 in
    let tail_s = number-ok (field row 4) _ x length_m.2 in
    let start_s = time-ok version (field row 5) _ x tail_s.2 in
    let legs = bind-ok (legs_in version start_s.0 (drop 6 row)) _ x start_s.2 in
    let times = times-ok version row 6 _ legs.0 legs.1 in
    let steps = run_legs-made version start_s.0 times.0 legs.0 times.1 (few-after few_times row 5 (length times.0) allowed times.2) times.3 in
    subst (λ r. IfOk r IsItem) legs.2 (name.1, route.1, length_m.1, tail_s.1, start_s.1, steps.0, steps.1, steps.2, steps.3)
item-says version kind.Section row x allowed e =
    let name = name-ok (field row 1) _ x e in
    let from_s = time-ok version (field row 2) _ x name.2 in
    let to_s = time-ok version (field row 3) _ x from_s.2 in
    let add_percent = rate-ok (field row 4) _ x to_s.2 in
    let blocks = names-ok row 5 _ x add_percent.2 in
    subst (λ r. IfOk r IsItem) blocks.3 (name.1, from_s.1, to_s.1, add_percent.1, blocks.1, few-after few_names row 4 (length blocks.0) allowed blocks.2)
item-says version kind.Connection row x allowed e =
    let name = name-ok (field row 1) _ x e in
    let first = name-ok (field row 2) _ x name.2 in
    let second = name-ok (field row 3) _ x first.2 in
    let minimum_s = number-ok (field row 4) _ x second.2 in
    subst (λ r. IfOk r IsItem) minimum_s.2 (name.1, first.1, second.1, minimum_s.1)

-- the times of a run are read back, and make its legs
run-again : (version start : ℕ) (legs : List Leg) (steps : List ℕ) → legs ≡ legs_of steps → Each (Says Time) steps → few_times (length steps) ≡ true
    → ((version == 2) ≡ true → list_all (λ time. nat_le time 359999999) (sums start (leg_times legs)) ≡ true)
    → (read_each (time_in version) (map (time_text version) (run_times version start legs)) ≡ Ok (run_times version start legs))
    × (run_legs version start (run_times version start legs) ≡ Ok legs)
    × (length (run_times version start legs) ≡ length steps)
run-again version start legs steps made each few clock =
    let odd = (and_parts (length steps % 2 == 1) (nat_lt (length steps) 512) few).0 in
    let times : leg_times legs ≡ steps = ap leg_times made ∙ leg_times-legs_of steps odd in
    let again : legs_of (leg_times legs) ≡ legs = ap legs_of times ∙ sym made in
    elim (cases_Bool (version == 2)) [
      | inl second ↦
          let below = Each-list_all (λ time. nat_le time 359999999) (λ time. time ≤ 359999999) (λ time. leb-true time 359999999) (sums start (leg_times legs)) (clock second) in
          let text : (time : ℕ) → time ≤ 359999999 → time_in version (time_text version time) ≡ Ok time = λ time le. time_in-text version time (omega arith) (λ _. le) in
          let read = read_each-map (time_in version) (time_text version) (λ time. time ≤ 359999999) text (sums start (leg_times legs)) below in
          rw second (read, rw (falls-sums start (leg_times legs), differences-sums start (leg_times legs), again) refl, length-sums start (leg_times legs) ∙ ap length times)
      | inr first ↦
          let text : (time : ℕ) → time < 1000000000 → time_in version (time_text version time) ≡ Ok time = λ time lt. time_in-text version time lt (λ second. absurd (false≢true (sym first ∙ second))) in
          let read = read_each-map (time_in version) (time_text version) (λ time. time < 1000000000) text (leg_times legs) (rw times each) in
          rw first (read, ap Ok again, ap length times)
    ]

-- the item of a row is read back
item-again : (version : ℕ) (x : Item) (first : List ℕ) → IsItem x → ((version == 2) ≡ true → has_clock_times x ≡ true) → item_in version (kind_of_item x) (first ∷ item_fields version x) ≡ Ok x
item-again version (item.Block b) first is clock = rw (is.0, number_in-decimal b.length_m is.1) refl
item-again version (item.Signal s) first is clock =
    rw (is.0, is.1, number_in-decimal s.approach_m is.2, number_in-decimal s.watch_s is.3, number_in-decimal s.form_s is.4, number_in-decimal s.overlap_m is.5, number_in-decimal s.release_s is.6) refl
item-again version (item.Route r) first is clock = rw (is.0, read_each-names r.signals is.1) refl
item-again version (item.Run r) first is clock =
    let times = λ (second : (version == 2) ≡ true). and_parts (nat_le r.start_s 359999999) (list_all (λ time. nat_le time 359999999) (sums r.start_s (leg_times r.legs))) (clock second) in
    let start = time_in-text version r.start_s is.4 (λ second. leb-true r.start_s 359999999 (times second).0) in
    let again = run-again version r.start_s r.legs is.5 is.6 is.7 is.8 (λ second. (times second).1) in
    rw (is.0, is.1, number_in-decimal r.length_m is.2, number_in-decimal r.tail_s is.3, start, again.0, again.1) refl
item-again version (item.Section s) first is clock =
    let times = λ (second : (version == 2) ≡ true). and_parts (nat_le s.from_s 359999999) (nat_le s.to_s 359999999) (clock second) in
    let from = time_in-text version s.from_s is.1 (λ second. leb-true s.from_s 359999999 (times second).0) in
    let to = time_in-text version s.to_s is.2 (λ second. leb-true s.to_s 359999999 (times second).1) in
    rw (is.0, from, to, rate_in-decimal s.add_percent is.3, read_each-names s.blocks is.4) refl
item-again version (item.Connection c) first is clock = rw (is.0, is.1, is.2, number_in-decimal c.minimum_s is.3) refl

-- and its row has as many fields as it may have
allows-more : (few : ℕ → Bool) (row : Row) (fields more : ℕ) → length row ≡ fields + more + 1 → few more ≡ true → few (length row - 1 - fields) ≡ true
allows-more few row fields more count is =
    let same : length row - 1 - fields ≡ more = omega (arith, count) in
    rw same is

item-allows : (version : ℕ) (x : Item) (first : List ℕ) → IsItem x → ((version == 2) ≡ true → has_clock_times x ≡ true) → allows (kind_shape (kind_of_item x)) (length (first ∷ item_fields version x)) ≡ true
item-allows version (item.Block b) first is clock = refl
item-allows version (item.Signal s) first is clock = refl
item-allows version (item.Route r) first is clock = allows-more few_names (first ∷ item_fields version (item.Route r)) 1 (length r.signals) (omega arith) is.2
item-allows version (item.Run r) first is clock =
    let times = λ (second : (version == 2) ≡ true). and_parts (nat_le r.start_s 359999999) (list_all (λ time. nat_le time 359999999) (sums r.start_s (leg_times r.legs))) (clock second) in
    let again = run-again version r.start_s r.legs is.5 is.6 is.7 is.8 (λ second. (times second).1) in
    let count = length-map (run_times version r.start_s r.legs) (time_text version) in
    allows-more few_times (first ∷ item_fields version (item.Run r)) 5 (length is.5) (omega (arith, count, again.2)) is.8
item-allows version (item.Section s) first is clock = allows-more few_names (first ∷ item_fields version (item.Section s)) 4 (length s.blocks) (omega arith) is.5
item-allows version (item.Connection c) first is clock = refl

-- what a line has that a row spells
abbrev IsLine : Line → Type 0
IsLine (line.Edit (edit.Put x)) = IsItem x
IsLine (line.Edit (edit.Change x)) = IsItem x
IsLine (line.Edit (edit.Drop k name)) = Says Name name
IsLine (line.Ask name) = Says Name name
IsLine (line.Planner n) = Says Number n

line_of-says : (version : ℕ) (w : Word) (row : Row) (l : Line) → allows (shape_of w) (length row) ≡ true → line_of version w row ≡ Ok l → IsLine l
line_of-says version (word.Put k) row l allowed e =
    let x = bind-ok (item_in version k row) _ l e in
    subst (λ r. IfOk r IsLine) x.2 (item-says version k row x.0 allowed x.1)
line_of-says version (word.Change k) row l allowed e =
    let x = bind-ok (item_in version k row) _ l e in
    subst (λ r. IfOk r IsLine) x.2 (item-says version k row x.0 allowed x.1)
line_of-says version (word.Drop k) row l allowed e = let name = name-ok (field row 1) _ l e in subst (λ r. IfOk r IsLine) name.2 name.1
line_of-says version word.Ask row l allowed e = let name = name-ok (field row 1) _ l e in subst (λ r. IfOk r IsLine) name.2 name.1
line_of-says version word.Planner row l allowed e = let n = number-ok (field row 1) _ l e in subst (λ r. IfOk r IsLine) n.2 n.1

read_in-says : (version : ℕ) (row : Row) (l : Line) → read_in version row ≡ Ok l → IsLine l
read_in-says version row l e =
    let w = bind-ok (ok_or (word_of (field row 0)) form.Kind) _ l e in
    elim (cases_Bool (allows (shape_of w.0) (length row))) [
      | inl allowed ↦ line_of-says version w.0 row l allowed (rw allowed at w.2)
      | inr other ↦ absurd (cc (rw other at w.2))
    ]

-- the row of a line is read back
line-again : (version : ℕ) (l : Line) → IsLine l → has_times_in version l ≡ true → read_in version (row_in version l) ≡ Ok l
line-again version (line.Edit (edit.Put x)) is times =
    let clock : (version == 2) ≡ true → has_clock_times x ≡ true = λ second. rw second at times in
    let first = word_text (word.Put (kind_of_item x)) in
    rw (word_of-text (word.Put (kind_of_item x)), item-allows version x first is clock, item-again version x first is clock) refl
line-again version (line.Edit (edit.Change x)) is times =
    let clock : (version == 2) ≡ true → has_clock_times x ≡ true = λ second. rw second at times in
    let first = word_text (word.Change (kind_of_item x)) in
    rw (word_of-text (word.Change (kind_of_item x)), item-allows version x first is clock, item-again version x first is clock) refl
line-again version (line.Edit (edit.Drop k name)) is times = rw (word_of-text (word.Drop k), is) refl
line-again version (line.Ask name) is times = rw (word_of-text word.Ask, is) refl
line-again version (line.Planner n) is times = rw (word_of-text word.Planner, number_in-decimal n is) refl

pub read_in-row_in : (version : ℕ) (l : Line) → IsSpelled l → has_times_in version l ≡ true → read_in version (row_in version l) ≡ Ok l
read_in-row_in version l spelled times = line-again version l (read_in-says spelled.0 spelled.1 l spelled.2) times
