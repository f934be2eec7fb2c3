use Rattle.std.proofs.Common.{◌≡◌, ℕ, ◌<◌, List, length, arith, [], ◌∷◌, get_or, map, Some, subst, sym, ◌∙◌, refl}
use Rattle.std.proofs.lemmas.Option.{slice_get_within, get_or_from_slice_get}
use Rattle.rail_model.specs.declared.items.Block.{Block}
use Rattle.rail_model.specs.declared.items.Signal.{Signal}
use Rattle.rail_model.specs.Tables.{no_block, number_of, hop_beyond}
use Rattle.rail_model.specs.Within.{no_leg}
use Rattle.rail_model.specs.Rules.{no_tables}
use Rattle.line_tables.specs.declared.linked.Linked.{Linked}
use Rattle.line_tables.specs.Table.{key_of, named, under, IsTable, AreNumbered}
use Rattle.line_tables.specs.Links.{IsLinked}
use Rattle.line_tables.specs.Hops.{hop_of}
use Rattle.line_tables.specs.Inside.{names_of_signal}
use Rattle.line_tables.proofs.Numbers.{number_at_key}
use Rattle.line_tables.proofs.Found.{found_by_key}
use Rattle.line_tables.proofs.Views.{item_named, number_of-map}
use Rattle.line_tables.proofs.Meets.{under_passes, some_key, only_key}
use Rattle.line_tables.proofs.Labels.{block_name}
use Rattle.line_tables.proofs.path.untimed_hop.Goals as goal

-- the one reference of a signal
reference : (blocks : List (ℕ × Block)) (signals : List (ℕ × Linked Signal)) (key : ℕ) (e : Linked Signal) → IsLinked names_of_signal block_name signals blocks → under signals key ≡ Some e → key_of block_name blocks e.item.block ∷ [] ≡ map Some e.refs
reference blocks signals key e linked here =
    let one = under_passes (λ u. map (key_of block_name blocks) (names_of_signal u.1.item) ≡ map Some u.1.refs) signals key e here linked in
    subst (λ (e : Linked Signal). key_of block_name blocks e.item.block ∷ [] ≡ map Some e.refs) one.1 one.2

pub bounds-slice-0 : goal.bounds-slice-0
bounds-slice-0 c =
    let e = c.get-entry.result.now in
    let some = some_key (key_of block_name c.args.blocks.now e.item.block) e.refs (reference c.args.blocks.now c.args.signals.now c.args.key e c.requires.linked c.get-entry.ensures.item) in
    rw c.slice.ensures some

pub get-block-requires : goal.get-block-requires
get-block-requires c =
    let e = c.get-entry.result.now in
    let blocks = c.args.blocks.now in
    let key = only_key (key_of block_name blocks e.item.block) e.refs (reference blocks c.args.signals.now c.args.key e c.requires.linked c.get-entry.ensures.item) in
    let found = found_by_key block_name blocks e.item.block (get_or e.refs 0 0) c.learn_order.ensures key in
    rw (c.slice.ensures, found.1.under) refl

-- the key of the block that the signal names
its_key : (blocks : List (ℕ × Block)) (signals : List (ℕ × Linked Signal)) (key : ℕ) (e : Linked Signal) → IsLinked names_of_signal block_name signals blocks → under signals key ≡ Some e → key_of block_name blocks e.item.block ≡ Some (get_or e.refs 0 0)
its_key blocks signals key e linked here =
    only_key (key_of block_name blocks e.item.block) e.refs (reference blocks signals key e linked here)

-- the number at that key is the block's
its_number : (blocks : List (ℕ × Block)) (signals : List (ℕ × Linked Signal)) (key : ℕ) (e : Linked Signal) (numbers : List ℕ) → IsLinked names_of_signal block_name signals blocks → under signals key ≡ Some e → AreNumbered (length blocks) blocks numbers → (get_or e.refs 0 0 < length numbers) × (get_or numbers (get_or e.refs 0 0) 0 ≡ number_of (named block_name) blocks e.item.block) × (number_of (named block_name) blocks e.item.block < length blocks)
its_number blocks signals key e numbers linked here numbered =
    let k = get_or e.refs 0 0 in
    let number = number_of (named block_name) blocks e.item.block in
    let at = number_at_key block_name blocks numbers e.item.block k numbered (its_key blocks signals key e linked here) in
    (slice_get_within numbers k number at.0, get_or_from_slice_get numbers k number 0 at.0, at.1)

pub bounds-numbers-block_key : goal.bounds-numbers-block_key
bounds-numbers-block_key c =
    let its = its_number c.args.blocks.now c.args.signals.now c.args.key c.get-entry.result.now c.args.numbers.now c.requires.linked c.get-entry.ensures.item c.requires.numbered in
    rw c.slice.ensures its.0

pub offset_bounds-numbers-block_key : goal.offset_bounds-numbers-block_key
offset_bounds-numbers-block_key c =
    let its = its_number c.args.blocks.now c.args.signals.now c.args.key c.get-entry.result.now c.args.numbers.now c.requires.linked c.get-entry.ensures.item c.requires.numbered in
    let within : get_or c.slice.result.now 0 0 < length c.args.numbers.now = rw c.slice.ensures its.0 in
    omega (arith, within)

pub overflow_cast-result : goal.overflow_cast-result
overflow_cast-result c =
    let its = its_number c.args.blocks.now c.args.signals.now c.args.key c.get-entry.result.now c.args.numbers.now c.requires.linked c.get-entry.ensures.item c.requires.numbered in
    let few = c.requires.few in
    let within = its.2 in
    rw (c.slice.ensures, its.1) (omega (arith, few, within))

hop_is : (blocks : List (ℕ × Block)) (signals : List (ℕ × Linked Signal)) (key k number : ℕ) (e : Linked Signal) (b : Block) → IsTable block_name blocks → under signals key ≡ Some e → key_of block_name blocks e.item.block ≡ Some k → under blocks k ≡ Some b → number ≡ number_of (named block_name) blocks e.item.block → record (hop_beyond no_tables e.item no_leg) { block = number; block_m = b.length_m } ≡ hop_of blocks signals key
hop_is blocks signals key k number e b table here keyed under_it counted =
    let lines = map (λ (x : ℕ × Block). x.1) blocks in
    let place : number ≡ number_of block_name lines e.item.block = counted ∙ sym (number_of-map (λ (x : ℕ × Block). x.1) block_name blocks e.item.block) in
    let item = item_named (λ (b : Block). b) block_name blocks e.item.block k b no_block table keyed under_it in
    rw (here, item, place) refl

pub returns : goal.returns
returns c =
    let blocks = c.args.blocks.now in
    let signals = c.args.signals.now in
    let e = c.get-entry.result.now in
    let its = its_number blocks signals c.args.key e c.args.numbers.now c.requires.linked c.get-entry.ensures.item c.requires.numbered in
    hop_is blocks signals c.args.key (get_or e.refs 0 0) _ e c.get-block.result.now c.learn_order.ensures c.get-entry.ensures.item (its_key blocks signals c.args.key e c.requires.linked c.get-entry.ensures.item) (rw c.slice.ensures at c.get-block.ensures.item) (rw c.slice.ensures its.1)
