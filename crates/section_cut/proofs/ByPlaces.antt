-- What is made of the items of a list by their places.
use Rattle.std.proofs.Common.{◌≡◌, List, length, map, get_or, sym}
use Rattle.std.specs.List.{range_with_len}
use Rattle.std.proofs.lemmas.List.{length-map, get_or-map}
use Rattle.std.proofs.lemmas.List.FromFn.{fill_by_all}

-- the images of its places are those of its items
pub by_places : {X Y : Type 0} (f : X → Y) (xs : List X) (d : X) → map (λ n. f (get_or xs n d)) (range_with_len 0 (length xs)) ≡ map f xs
by_places f xs d =
    sym (fill_by_all (λ n. f (get_or xs n d)) (map f xs) (length xs) (f d) (length-map xs f)
    (λ k below. get_or-map f xs k d (f d) below))
