-- The command that is read of words.
use Rattle.std.proofs.Common.{◌≡◌, ℕ, ◌<◌, length, map, Bool, true, false, if◌then◌else◌, List, [], ◌∷◌, Option, None, Some, Result, Ok, Err, refl, sym, ap, ◌∙◌, arith}
use Rattle.std.specs.Prelude.{◌&&◌, codes}
use Rattle.std.proofs.lemmas.Bool.{and_parts}
use Rattle.std.proofs.lemmas.List.{take_all}
use Rattle.rail_model.specs.Name.{is_same, name_of}
use Rattle.capacity_cmd.specs.declared.command.Command.{Command}
use Rattle.capacity_cmd.specs.declared.command.Command.TheVariants as command
use Rattle.capacity_cmd.specs.Command.{are_delays, delays_of, IsRead, command_of, short_command_of, workers_asked}
use Rattle.capacity_cmd.proofs.GivenDelays.{rest}

-- words that spell no delays spell what short words spell
or_short : (test are : Bool) (delays short : Option Command) → are ≡ false → (if test && are then delays else short) ≡ short
or_short true are delays short is = rw is refl
or_short false are delays short is = refl

pub few_are_short : {X : Type 0} (f : X → List ℕ) (words : List X) → length words < 2
    → command_of (map f words) ≡ short_command_of (map f words)
few_are_short f [] few = refl
few_are_short f (word ∷ []) few = refl
few_are_short f (word ∷ section ∷ given) few = absurd (omega (arith, few))

pub others_are_short : {X : Type 0} (f : X → List ℕ) (words : List X) → are_delays (map f (rest words)) ≡ false
    → command_of (map f words) ≡ short_command_of (map f words)
others_are_short f [] others = refl
others_are_short f (word ∷ []) others = refl
others_are_short {X = X} f (word ∷ section ∷ given) others =
    let all : rest (word ∷ section ∷ given) ≡ given = take_all _ given (omega arith) in
    or_short (is_same (f word) (codes "delays")) (are_delays (map f given)) _ _
    (ap (λ (more : List X). are_delays (map f more)) (sym all) ∙ others)

-- what short words spell is read of them
pub read_short : (E : Type 0) (found short : Option Command) → found ≡ short → IsRead {E = E} found (Ok short)
read_short E None short is = ap Ok (sym is)
read_short E (Some command) short is = sym is

pub read_none : {E : Type 0} (found : Option Command) (read : Result (Option Command) E) → IsRead found read → read ≡ Ok None
    → found ≡ None
read_none None read h is = refl
read_none (Some command) (Ok made) h is = absurd (cc)
read_none (Some command) (Err why) h is = absurd (cc)

pub read_some : {E : Type 0} (found : Option Command) (read : Result (Option Command) E) (why : E) → IsRead found read
    → read ≡ Err why → (command : Command) × (found ≡ Some command)
read_some None read why h is = let it : Ok None ≡ Err why = sym h ∙ is in absurd (cc)
read_some (Some command) read why h is = (command, refl)

pub read_command : {E : Type 0} (found : Option Command) (read : Result (Option Command) E) (command : Command)
    → IsRead found read → read ≡ Ok (Some command) → found ≡ Some command
read_command None read command h is = let it : Ok None ≡ Ok (Some command) = sym h ∙ is in absurd (cc)
read_command (Some c) (Ok made) command h is = cc
read_command (Some c) (Err why) command h is = absurd (cc)

-- ---- how many workers words ask for

-- words that ask for some spell a session
pub asks_session : (found : Option Command) (workers : ℕ) → workers_asked found ≡ workers → 0 < workers
    → found ≡ Some (command.Session workers)
asks_session None workers is some = absurd (omega (arith, is, some))
asks_session (Some command.Stairs) workers is some = absurd (omega (arith, is, some))
asks_session (Some command.Check) workers is some = absurd (omega (arith, is, some))
asks_session (Some (command.Compress section)) workers is some = absurd (omega (arith, is, some))
asks_session (Some command.Report) workers is some = absurd (omega (arith, is, some))
asks_session (Some (command.Headways section)) workers is some = absurd (omega (arith, is, some))
asks_session (Some (command.Cut section)) workers is some = absurd (omega (arith, is, some))
asks_session (Some (command.Cycle section)) workers is some = absurd (omega (arith, is, some))
asks_session (Some (command.Delays section given)) workers is some = absurd (omega (arith, is, some))
asks_session (Some (command.Fill section run)) workers is some = absurd (omega (arith, is, some))
asks_session (Some (command.Session asked)) workers is some = ap (λ w. Some (command.Session w)) is

none_for_fill : (test : Bool) (fill : Command) → workers_asked (Some fill) ≡ 0 → workers_asked (if test then Some fill else None) ≡ 0
none_for_fill true fill none = none
none_for_fill false fill none = refl

-- words that spell delays ask for none, read as short ones, too
none_for_delays : (word section : List ℕ) (given : List (List ℕ)) → are_delays given ≡ true
    → workers_asked (short_command_of (word ∷ section ∷ given)) ≡ 0
none_for_delays word section [] are = absurd (cc)
none_for_delays word section (run ∷ []) are = none_for_fill (is_same word (codes "fill")) (command.Fill (name_of section) (name_of run)) refl
none_for_delays word section (run ∷ delay ∷ given) are = refl

either : (test : Bool) (delays : Command) (short : Option Command) → workers_asked (Some delays) ≡ 0
    → (test ≡ true → workers_asked short ≡ 0) → workers_asked (if test then Some delays else short) ≡ workers_asked short
either true delays short none also = none ∙ sym (also refl)
either false delays short none also = refl

-- so short words alone ask for workers
pub asked_shortly : (words : List (List ℕ)) → workers_asked (command_of words) ≡ workers_asked (short_command_of words)
asked_shortly [] = refl
asked_shortly (word ∷ []) = refl
asked_shortly (word ∷ section ∷ given) =
    either (is_same word (codes "delays") && are_delays given) (command.Delays (name_of section) (delays_of given))
    (short_command_of (word ∷ section ∷ given)) refl
    (λ is. none_for_delays word section given (and_parts _ _ is).1)

pub asked_as_short : (words : List (List ℕ)) (read : Option Command) (workers : ℕ) → read ≡ short_command_of words
    → workers ≡ workers_asked read → workers ≡ workers_asked (command_of words)
asked_as_short words read workers short is = is ∙ ap workers_asked short ∙ sym (asked_shortly words)
