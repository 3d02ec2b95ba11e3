-- One more operation that the chain passes.
use Rattle.std.proofs.Common.{ℕ, zero, suc, ◌≡◌, ◌<◌, ◌⊎◌, Bool, List, [], ◌∷◌, ◌++◌, length, slice_index}
use Rattle.std.proofs.Common.{slice_index_or, true, false, sym, ap, ◌∙◌, subst, inl, inr, arith}
use Rattle.std.specs.List.{remove}
use Rattle.std.proofs.lemmas.Bool.{both_ways}
use Rattle.ws_isa.specs.declared.instr.Link.{Link}
use Rattle.ws_isa.specs.declared.instr.Note.{Note}
use Rattle.ws_isa.specs.Image.{Image, note_of}
use Rattle.df_core.specs.Core.{Chain, IsNext, pass, pass_by}
use Rattle.df_core.specs.Stands.{left_by, left_after, Settles, done, goes}
use Rattle.df_core.specs.Chains.{is_nothing, next_flag, PassedOn, HasOneMore}
use Rattle.df_core.proofs.Parts.Nexts.{next_is, next_not}
use Rattle.ws_words.specs.Items.{In}
use Rattle.ws_words.proofs.Places.{in_place}

pub in_at : (xs : List ℕ) (i : ℕ) → In i xs → (k : ℕ) × (k < length xs) × (slice_index xs k ≡ i)
in_at [] i h = absurd h
in_at (x ∷ xs) i (inl h) = (0, omega arith, sym h)
in_at (x ∷ xs) i (inr h) = let r = in_at xs i h in (
  suc r.0,
  (let l : r.0 < length xs = r.1 in omega arith),
  r.2,
)

remove_back : (xs : List ℕ) (k j : ℕ) → In j (remove xs k) → In j xs
remove_back [] k j h = nothing k h
  where
    nothing : (k : ℕ) → In j (remove [] k) → ⊥
    nothing k h = grind arith
remove_back (x ∷ xs) zero j h = inr h
remove_back (x ∷ xs) (suc k) j (inl h) = inl h
remove_back (x ∷ xs) (suc k) j (inr h) = inr (remove_back xs k j h)

remove_forth : (xs : List ℕ) (k j : ℕ) → k < length xs → In j xs → (slice_index xs k ≡ j) ⊎ In j (remove xs k)
remove_forth [] k j l h = absurd h
remove_forth (x ∷ xs) zero j l (inl h) = inl (sym h)
remove_forth (x ∷ xs) zero j l (inr h) = inr h
remove_forth (x ∷ xs) (suc k) j l (inl h) = inr (inl h)
remove_forth (x ∷ xs) (suc k) j l (inr h) = grind (arith, remove_forth xs k j (omega arith) h)

-- the chain passes one of them
pub one_more : (image : Image) (c d new : Chain) (early rest left : List ℕ) (k : ℕ) (n : Note)
    → k < length early → IsNext c (note_of image (slice_index early k))
    → n ≡ note_of image (slice_index early k) →
    rest ≡ left_after n (remove early k) → new ≡ pass c n → Settles image new rest d left
    → Settles image c early d left
one_more image c d new early rest left k n l nx e f g s =
    let i = slice_index early k in
    goes i (remove early k) (in_place early k l) nx (λ j h. remove_back early k j h)
    (λ j h. remove_forth early k j l h)
    (subst (λ (m : Note). Settles image (pass c m) (left_after m (remove early k)) d left) e
    (subst (λ (xs : List ℕ). Settles image (pass c n) xs d left) f
    (subst (λ (x : Chain). Settles image x rest d left) g s)))

pub index_is : (xs : List ℕ) (k x : ℕ) → k < length xs → x ≡ slice_index_or xs k x → x ≡ slice_index xs k
index_is (y ∷ xs) (suc k) x l e = index_is xs k x (omega arith) e
index_is xs k x l e = grind arith

-- one that was looked at
pub seen_at : (image : Image) (c : Chain) (xs : List ℕ) (at k : ℕ) (n : Note) (b : Bool) → at ≡ k
    → n ≡ note_of image (slice_index xs at) → b ≡ next_flag c n → b ≡ false
    → IsNext c (note_of image (slice_index xs k)) → ⊥
seen_at image c xs at k n b same note flag held = grind (arith, next_not)

-- behind the last operation of a wave none is left, and behind another all are
pub none_by : (l : Link) (xs : List ℕ) → is_nothing l ≡ true → left_by l xs ≡ []
none_by l xs e = grind (arith, both_ways)

pub all_by : (l : Link) (xs : List ℕ) → is_nothing l ≡ false → left_by l xs ≡ xs
all_by l xs e = grind (arith, both_ways)

-- behind the last operation of a wave nothing is left to pass
pub all_passed : (image : Image) (c : Chain) (n : Note) (early left : List ℕ) → is_nothing n.succ ≡ true
    → left ≡ left_after n early → Settles image c left c left
all_passed image c n early left e f = done (grind (arith, none_by))

same_by : (c : Chain) (n : Note) (l : Link) → is_nothing l ≡ false → (pass_by c n l).wave ≡ c.wave
same_by c n l e = grind (arith, both_ways)

pub same_wave : (c : Chain) (n : Note) → is_nothing n.succ ≡ false → (pass c n).wave ≡ c.wave
same_wave c n e = same_by c n n.succ e

-- an operation that ends its wave is passed, and none is left behind it
pub wave_ended : (image : Image) (c d : Chain) (i : ℕ) (n : Note) (early left : List ℕ) → n ≡ note_of image i
    → next_flag c n ≡ true → is_nothing n.succ ≡ true → d ≡ pass c n → left ≡ []
    → PassedOn image c i early d left
wave_ended image c d i n early left note next ends behind none =
    let nx : IsNext c (note_of image i) = subst (IsNext c) note (next_is c n next) in
    let e : left_after (note_of image i) early ≡ [] = none_by (note_of image i).succ early
    (subst (λ (m : Note). is_nothing m.succ ≡ true) note ends) in
    let p : d ≡ pass c (note_of image i) = behind ∙ ap (pass c) note in
    inl (nx, rw (p, none, e) (done (λ j h. absurd h)))

pub in_end : (i j : ℕ) (early : List ℕ) → In j (i ∷ early) → In j (early ++ i ∷ [])
in_end i j [] h = h
in_end i j (x ∷ early) (inl h) = inr (in_end i j early (inl h))
in_end i j (x ∷ early) (inr (inl h)) = inl h
in_end i j (x ∷ early) (inr (inr h)) = inr (in_end i j early (inr h))

pub end_in : (i j : ℕ) (early : List ℕ) → In j (early ++ i ∷ []) → In j (i ∷ early)
end_in i j [] h = h
end_in i j (x ∷ early) (inl h) = inr (inl h)
end_in i j (x ∷ early) (inr h) = grind (arith, end_in i j early h)

-- one that isn't next is kept behind the others
pub kept_behind : (i : ℕ) (early left : List ℕ) → left ≡ early ++ i ∷ [] → HasOneMore i early left
kept_behind i early left e = grind (arith, end_in, in_end)
