use Rattle.std.proofs.Common.{refl}
use Rattle.std.specs.Prelude.{option_map}
use Rattle.plan_model.specs.Cut.{stamped, cut_of}
use Rattle.section_cut.proofs.Anew.{value_of}
use Rattle.section_cut.proofs.laws.made_cuts_have_their_value.Goals as goal

pub returns : goal.returns
returns c = λ tables section stamp. value_of tables section stamp (option_map (stamped stamp) (cut_of tables section)) refl
