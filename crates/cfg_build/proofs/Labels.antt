-- Each block's sole predecessor, where no other edge may enter it.
use Rattle.std.proofs.Common.{ℕ, suc, ◌+◌, ◌≡◌, List, [], ◌∷◌, ◌++◌, length, Option, Some, None, refl, arith}
use Rattle.std.proofs.lemmas.List.{length-append}
use Rattle.seq_run.specs.Resolved.{Do, Call, If, While, Steps, Nothing, Then, Proc}
use Rattle.cfg_build.specs.Lowered.{begun}
use Rattle.cfg_build.proofs.Places.{StandAt, stand_front, stand_back}
use Rattle.ws_words.specs.Items.{nth, or_else}

-- of the blocks of steps, the first of which has this number and this label
abbrev pub labels : Steps → ℕ → Option ℕ → List (Option ℕ)
labels Nothing c l = l ∷ []
labels (Then (Do a) more) c l = labels more c l
labels (Then (Call x f ts) more) c l = l ∷ labels more (suc c) None
labels (Then (If t a b) more) c l =
    let second = suc (suc c + begun a) in let join = suc (second + begun b) in
    l ∷ labels a (suc c) (Some c) ++ (labels b second (Some c) ++ labels more join None)
labels (Then (While t body) more) c l =
    let inside = suc (suc c) in let after = suc (inside + begun body) in
    l ∷ None ∷ (labels body inside (Some (suc c)) ++ labels more after (Some (suc c)))

pub length_labels : (st : Steps) (c : ℕ) (l : Option ℕ) → length (labels st c l) ≡ suc (begun st)
length_labels Nothing c l = refl
length_labels (Then (Do a) more) c l = length_labels more c l
length_labels (Then (Call x f ts) more) c l = omega (arith, length_labels more (suc c) None)
length_labels (Then (If t a b) more) c l =
    let second = suc (suc c + begun a) in let join = suc (second + begun b) in
    let xs = labels a (suc c) (Some c) in let ys = labels b second (Some c) in
    let zs = labels more join None in
    omega (
      arith,
      length-append xs (ys ++ zs),
      length-append ys zs,
      length_labels a (suc c) (Some c),
      length_labels b second (Some c),
      length_labels more join None,
    )
length_labels (Then (While t body) more) c l =
    let inside = suc (suc c) in let after = suc (inside + begun body) in
    let xs = labels body inside (Some (suc c)) in let ys = labels more after (Some (suc c)) in
    omega (
      arith,
      length-append xs ys,
      length_labels body inside (Some (suc c)),
      length_labels more after (Some (suc c)),
    )

-- of the blocks of procedures, the first of which begins at this block
abbrev pub all_labels : List Proc → ℕ → List (Option ℕ)
all_labels [] c = []
all_labels (p ∷ ps) c = labels p.body c None ++ all_labels ps (suc (c + begun p.body))

abbrev pub label_in : List (Option ℕ) → ℕ → Option ℕ
label_in all b = or_else (nth all b) None

module _ (all : List (Option ℕ)) where
  -- these are the labels from this block on
  abbrev pub LabelsAt : ℕ → List (Option ℕ) → Type 0
  LabelsAt b ls = StandAt (label_in all) (length all) b ls

  pub first_label : (st : Steps) (c : ℕ) (l : Option ℕ) → LabelsAt c (labels st c l) → label_in all c ≡ l
  first_label (Then (Do a) more) c l h = first_label more c l h
  first_label st c l h = h.1

  pub labels_front : (st : Steps) (c : ℕ) (l : Option ℕ) (ls : List (Option ℕ))
      → LabelsAt c (labels st c l ++ ls) → LabelsAt c (labels st c l)
  labels_front st c l ls h = stand_front (label_in all) (length all) c (labels st c l) ls h

  pub labels_back : (st : Steps) (c : ℕ) (l : Option ℕ) (ls : List (Option ℕ))
      → LabelsAt c (labels st c l ++ ls) → LabelsAt (suc (c + begun st)) ls
  labels_back st c l ls h = grind (arith, stand_back, length_labels st c l)
