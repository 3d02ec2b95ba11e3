-- The bound of a program holds for its image.
use Rattle.std.proofs.Common.{ℕ, suc, ◌+◌, ◌*◌, ◌≡◌, ◌≤◌, List, [], ◌∷◌, length, arith}
use Rattle.std.specs.List.{sum_by}
use Rattle.std.proofs.lemmas.List.Sums.{sum_by-cons}
use Rattle.std.proofs.Math.Nat.{mul-le-mul_right}
use Rattle.ws_words.specs.Outside.{World}
use Rattle.ws_isa.specs.Image.{Image}
use Rattle.src_ast.specs.Syntax.{Part}
use Rattle.src_ast.specs.Bound.{widest, most_variables, bound}
use Rattle.src_ast.specs.LanguageLimits.{most_statement_nodes}
use Rattle.cfg_core.specs.Graph.{Graph}
use Rattle.cfg_core.specs.Walk.{opening}
use Rattle.cfg_core.specs.Weights.{path}
use Rattle.live_vars.specs.Marks.{has}
use Rattle.wave_cut.specs.Cut.{Cut}
use Rattle.wave_gen.specs.Cost.{quarters, CostsAtMost}
use Rattle.wave_link.specs.Passed.{WalksFor}
use Rattle.wave_build.specs.Passed.{Costed, LastGraphs}
use Rattle.wave_build.specs.Bounds.{StaysWithin}
use Rattle.wave_build.proofs.Costing.{last_weighs}

-- four more for each item
sum_more : (f : ℕ → ℕ) (xs : List ℕ) → sum_by (λ c. f c + 4) xs ≡ sum_by f xs + 4 * length xs
sum_more f [] = omega arith
sum_more f (x ∷ xs) =
    let i = sum_more f xs in
    let a = sum_by-cons f x xs in let b = sum_by-cons (λ c. f c + 4) x xs in omega (arith, i, a, b)

in_all : (e v n : ℕ) → e ≤ 255 → (17 * v + 80) + (2 * (11 * v + 31) + (42 * v + 180 + 9 * e)) * n
    ≤ 4 * ((2 * e + 16 * (v + 8)) * suc n)
in_all e v n h =
    let m : (2 * (11 * v + 31) + (42 * v + 180 + 9 * e)) * n ≤ (8 * e + 64 * v + 512) * n =
    mul-le-mul_right n (omega (arith, h)) in
    let s : 4 * ((2 * e + 16 * (v + 8)) * suc n) ≡ (8 * e + 64 * v + 512) + (8 * e + 64 * v + 512) * n =
    grind arith in
    omega (arith, m, s)

module _ (parts : List Part) (j k s : Graph) (needed live : List (List ℕ)) (cut : Cut)
    (narrow : widest parts ≤ most_statement_nodes) (C : Costed parts j)
    (P : LastGraphs j k s needed live cut) where
  pub stays_within : (draft image : Image) (world : World) (turns : ℕ) → CostsAtMost s (has live) draft world
      turns → WalksFor draft image world → StaysWithin parts s image world turns
  stays_within draft image world turns costs walks o ends =
      let c = costs ends.0 o 0 ends.1 in
      let way = path s ends.0 (opening s world turns) in
      let w = last_weighs parts j k s needed live cut C P world turns ends.0 in
      let f = sum_more (quarters s (has live)) way in
      let b = in_all (widest parts) (most_variables parts) turns (omega (arith, narrow)) in
      walks.costs (bound parts * suc turns)
      (λ t. (let x = c.1 t in let y = c.3 t in omega (arith, x, y, c.2, w, f, b)))
