-- A test whether each region stands behind its parts.
use Rattle.std.specs.Prelude.{ℕ, suc, Bool, true, List, [], ◌∷◌, nat_lt, ◌&&◌}
use Rattle.std.specs.List.{list_all}
use Rattle.dxil_form.specs.declared.region.Region.{Region}
use Rattle.dxil_form.specs.declared.region.Region.TheVariants as region

abbrev pub is_behind : ℕ → Region → Bool
is_behind n (region.Leaf block) = true
is_behind n (region.Then first second target) = nat_lt first n && nat_lt second n
is_behind n (region.Loop body head) = nat_lt body n
is_behind n (region.Dispatch arms) = list_all (λ a. nat_lt a n) arms
is_behind n (region.Arms first arms) = nat_lt first n && list_all (λ arm. nat_lt arm.1 n) arms

-- the regions stand from place n on
abbrev pub are_behind : ℕ → List Region → Bool
are_behind n [] = true
are_behind n (r ∷ list) = is_behind n r && are_behind (suc n) list
