-- How ways are stored, so that values that contracts speak of can be told apart.
use Rattle.std.specs.Prelude.{◌≡◌, ℕ, zero, suc, Bool, List, [], refl}
use Rattle.std.specs.Coded.{Coded, code_by, coded×, coded_ℕ, coded_bool, coded_list}
use Rattle.poets_way.specs.Way.{Way}
use Rattle.poets_way.specs.Moves.{Move, moves_of, way_in}
use Rattle.poets_way.specs.Moves as M
use Rattle.poets_way.specs.Reading.{way_of_moves}

-- a move as a number for its form, its sides and its count
abbrev split : Move → ℕ × (List Bool × ℕ)
split M.Nothing = (0, ([], 0))
split M.Enter = (1, ([], 0))
split M.Take = (2, ([], 0))
split M.Left = (3, ([], 0))
split M.Right = (4, ([], 0))
split (M.Both sides) = (5, (sides, 0))
split (M.Then n) = (6, ([], n))

abbrev join_by : ℕ → List Bool → ℕ → Move
join_by zero sides n = M.Nothing
join_by (suc zero) sides n = M.Enter
join_by (suc (suc zero)) sides n = M.Take
join_by (suc (suc (suc zero))) sides n = M.Left
join_by (suc (suc (suc (suc zero)))) sides n = M.Right
join_by (suc (suc (suc (suc (suc zero))))) sides n = M.Both sides
join_by _ sides n = M.Then n

abbrev join : ℕ × (List Bool × ℕ) → Move
join p = join_by p.0 p.1.0 p.1.1

pub join_split : (m : Move) → join (split m) ≡ m
join_split M.Nothing = refl
join_split M.Enter = refl
join_split M.Take = refl
join_split M.Left = refl
join_split M.Right = refl
join_split (M.Both sides) = refl
join_split (M.Then n) = refl

abbrev pub coded_move : Coded Move
coded_move =
    code_by (ℕ × (List Bool × ℕ)) (coded× coded_ℕ (coded× (coded_list coded_bool) coded_ℕ)) split join join_split

-- a way is stored as its moves
abbrev pub coded_way : Coded Way
coded_way = code_by (List Move) (coded_list coded_move) moves_of way_in way_of_moves
