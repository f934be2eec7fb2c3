-- The definitions, evaluated where the draws were worked out by hand or by a generator of its own.
use Rattle.std.proofs.Common.{◌≡◌, codes, refl}
use Rattle.made_line.specs.Base.{next_number, after_draws, run_name, block_of}

next_of_one : next_number 1 ≡ 1103527590
next_of_one = refl

-- the first blocks of the line made from 1 are of 1838, 1758 and 1113 metres
first_block : block_of 1 0 ≡ record { name = codes "b00"; length_m = 1838 }
unfolding after_draws
first_block = refl

second_block : block_of 1 1 ≡ record { name = codes "b01"; length_m = 1758 }
unfolding after_draws
second_block = refl

third_block : block_of 1 2 ≡ record { name = codes "b02"; length_m = 1113 }
unfolding after_draws
third_block = refl

last_run : run_name 299 ≡ codes "r299"
last_run = refl
