-- Edits that keep the runs, the sections and the names of blocks.
use Rattle.std.proofs.Common.{◌≡◌, ℕ, zero, suc, List, [], ◌∷◌, get_or, refl, sym, subst, inl, inr}
use Rattle.std.proofs.lemmas.Bool.{cases_Bool}
use Rattle.rail_model.specs.declared.items.Block.{Block}
use Rattle.rail_model.specs.declared.items.Item.{Item}
use Rattle.rail_model.specs.declared.items.Item.TheVariants as item
use Rattle.rail_model.specs.declared.edit.Edit.{Edit}
use Rattle.rail_model.specs.declared.edit.Edit.TheVariants as edit
use Rattle.rail_model.specs.declared.tables.Tables.{Tables}
use Rattle.rail_model.specs.Name.{is_same}
use Rattle.rail_model.specs.Tables.{no_block}
use Rattle.rail_model.specs.Rules.{with_changed, after_put, after_change, after}
use Rattle.rail_model.proofs.NameOrder.{same_name}
use Rattle.section_cut.specs.ReachedRuns.{PutKeepsBlocks, ChangeKeepsBlocks, KeepsBlocks, IsSameTraffic}

-- a changed block keeps its name
names_stay : (b : Block) (items : List Block) (k : ℕ)
    → (get_or (with_changed (λ (x : Block). x.name) items b) k no_block).name ≡ (get_or items k no_block).name
names_stay b [] k = refl
names_stay b (y ∷ items) zero =
    elim (cases_Bool (is_same y.name b.name)) [
      | inl e ↦ rw e (sym (same_name y.name b.name e))
      | inr e ↦ rw e refl
    ]
names_stay b (y ∷ items) (suc k) = names_stay b items k

module _ (tables : Tables) where
  by_put : (x : Item) → PutKeepsBlocks x → IsSameTraffic tables (after_put tables x)
  by_put (item.Block b) not_one = absurd not_one
  by_put (item.Signal s) _ = record { runs = refl; sections = refl; connections = refl; names = λ k. refl }
  by_put (item.Route r) _ = record { runs = refl; sections = refl; connections = refl; names = λ k. refl }
  by_put (item.Run r) not_one = absurd not_one
  by_put (item.Section s) not_one = absurd not_one
  by_put (item.Connection c) not_one = absurd not_one

  by_change : (x : Item) → ChangeKeepsBlocks x → IsSameTraffic tables (after_change tables x)
  by_change (item.Block b) _ = record { runs = refl; sections = refl; connections = refl; names = names_stay b tables.blocks }
  by_change (item.Signal s) _ = record { runs = refl; sections = refl; connections = refl; names = λ k. refl }
  by_change (item.Route r) _ = record { runs = refl; sections = refl; connections = refl; names = λ k. refl }
  by_change (item.Run r) not_one = absurd not_one
  by_change (item.Section s) not_one = absurd not_one
  by_change (item.Connection c) not_one = absurd not_one

  kept_after : (x : Edit) → KeepsBlocks x → IsSameTraffic tables (after tables x)
  kept_after (edit.Put x) one = by_put x one
  kept_after (edit.Change x) one = by_change x one
  kept_after (edit.Drop k n) not_one = absurd not_one

pub same_traffic : (earlier later : Tables) (x : Edit) → later ≡ after earlier x → KeepsBlocks x
    → IsSameTraffic earlier later
same_traffic earlier later x is keeps = subst (IsSameTraffic earlier) (sym is) (kept_after earlier x keeps)
