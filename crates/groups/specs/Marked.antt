-- The marked cases of document 01 on single numbers, and the greatest number.
-- Assumes nothing.
use Rattle.std.specs.Prelude.{refl, List, [], ◌∷◌}
use Rattle.basis.specs.Marked.{Row, row, Hold, number_and_place}
use Rattle.groups.specs.Encode.{groups, encode}
use Rattle.groups.specs.Decode.{last_group, extend, later_groups, limit, decode}
use Rattle.groups.specs.Numbers.{damage}

unfoldable pub rows : List Row
rows =
    row (encode 127) (127 ∷ [])  -- 7F
    ∷ row (encode 128) (128 ∷ 1 ∷ [])  -- 80 01
    ∷ row (encode 4294967295) (255 ∷ 255 ∷ 255 ∷ 255 ∷ 15 ∷ [])  -- FF FF FF FF 0F
    ∷ row (number_and_place (damage 1 0 (128 ∷ 0 ∷ []))) (6 ∷ 0 ∷ [])  -- 80 00
    ∷ []

pub marked : Hold rows
unfolding Hold rows encode groups damage decode later_groups last_group extend limit
marked = (refl, (refl, (refl, (refl, tt))))
