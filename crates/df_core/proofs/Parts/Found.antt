-- Tokens on the way, by place.
use Rattle.std.proofs.Common.{ℕ, zero, suc, ◌≡◌, ◌<◌, List, [], ◌∷◌, ◌++◌, length, map, take, drop}
use Rattle.std.proofs.Common.{slice_index_or, sym, ap, ◌∙◌, inl, inr, arith}
use Rattle.std.specs.List.{remove}
use Rattle.ws_isa.specs.Image as plain
use Rattle.df_core.specs.Core.{IsSent}
use Rattle.df_core.specs.declared.plain.Token.{Token}
use Rattle.df_core.specs.declared.way.Way.{Way}
use Rattle.df_core.specs.Ways.{token_of, way_of, NoneAt, IsTokenAt, TakenAt, no_token}
use Rattle.df_core.proofs.Parts.Issuing.{split_at}
use Rattle.ws_words.proofs.Lists.{append_on, map_append}

pub none_at : (ts : List Token) (w i p : ℕ) → ((k : ℕ) → k < length ts → IsTokenAt ts k w i p → ⊥)
    → NoneAt (map token_of ts) w i p
none_at [] w i p f v h = h
none_at (t ∷ ts) w i p f v (inl h) = f 0 (omega arith) (record { wave = h.0; instr = h.1; port = h.2 })
none_at (t ∷ ts) w i p f v (inr h) =
    none_at ts w i p
    (λ k l e. f (suc k) (omega arith) (record { wave = e.wave; instr = e.instr; port = e.port })) v h

pub none_both : (xs ys : List plain.Token) (w i p : ℕ) → NoneAt xs w i p → NoneAt ys w i p
    → NoneAt (xs ++ ys) w i p
none_both [] ys w i p f g v h = g v h
none_both (x ∷ xs) ys w i p f g v (inl h) = f v (inl h)
none_both (x ∷ xs) ys w i p f g v (inr h) = none_both xs ys w i p (λ u k. f u (inr k)) g v h

-- a list with one token taken out
pub taken_out : (ts new : List Token) (k : ℕ) (t : Token) → k < length ts → new ≡ remove ts k
    → t ≡ slice_index_or ts k no_token →
    (map token_of ts ≡ map token_of (take k ts) ++ token_of t ∷ map token_of (drop (suc k) ts))
    × (map token_of new ≡ map token_of (take k ts) ++ map token_of (drop (suc k) ts))
taken_out ts new k t l e is = (
  ap (map token_of) (sym (split_at ts k no_token l)) ∙ map_append token_of (take k ts)
      (slice_index_or ts k no_token ∷ drop (suc k) ts)
      ∙ ap (λ (x : Token). map token_of (take k ts) ++ token_of x ∷ map token_of (drop (suc k) ts)) (sym is),
  ap (map token_of) e ∙ map_append token_of (take k ts) (drop (suc k) ts),
)

pub taken_now : (old new : Way) (k : ℕ) (t : Token) (w i p : ℕ) → k < length old.now.items
    → new.now.items ≡ remove old.now.items k → t ≡ slice_index_or old.now.items k no_token
    → new.later.items ≡ old.later.items → IsTokenAt old.now.items k w i p → TakenAt old new w i p t
taken_now old new k t w i p l e is same at =
    let r = taken_out old.now.items new.now.items k t l e is in
    record {
      before = map token_of (take k old.now.items);
      behind = map token_of (drop (suc k) old.now.items) ++ map token_of old.later.items;
      old_is = ap (λ (xs : List plain.Token). xs ++ map token_of old.later.items) r.0
          ∙ append_on (map token_of (take k old.now.items))
          (token_of t ∷ map token_of (drop (suc k) old.now.items)) (map token_of old.later.items);
      new_is = ap (λ (xs : List plain.Token). xs ++ map token_of new.later.items) r.1
          ∙ append_on (map token_of (take k old.now.items)) (map token_of (drop (suc k) old.now.items))
          (map token_of new.later.items)
          ∙ ap (λ (xs : List Token). map token_of (take k old.now.items)
          ++ (map token_of (drop (suc k) old.now.items) ++ map token_of xs)) same;
      wave = ap (λ (x : Token). x.wave) is ∙ at.wave;
      instr = ap (λ (x : Token). x.instr) is ∙ at.instr;
      port = ap (λ (x : Token). x.port) is ∙ at.port;
    }

pub taken_later : (old new : Way) (k : ℕ) (t : Token) (w i p : ℕ) → k < length old.later.items
    → new.later.items ≡ remove old.later.items k → t ≡ slice_index_or old.later.items k no_token
    → new.now.items ≡ old.now.items → IsTokenAt old.later.items k w i p → TakenAt old new w i p t
taken_later old new k t w i p l e is same at =
    let r = taken_out old.later.items new.later.items k t l e is in
    record {
      before = map token_of old.now.items ++ map token_of (take k old.later.items);
      behind = map token_of (drop (suc k) old.later.items);
      old_is = ap (λ (xs : List plain.Token). map token_of old.now.items ++ xs) r.0
          ∙ sym (append_on (map token_of old.now.items) (map token_of (take k old.later.items))
          (token_of t ∷ map token_of (drop (suc k) old.later.items)));
      new_is = ap (λ (xs : List Token). map token_of xs ++ map token_of new.later.items) same
          ∙ ap (λ (xs : List plain.Token). map token_of old.now.items ++ xs) r.1
          ∙ sym (append_on (map token_of old.now.items) (map token_of (take k old.later.items))
          (map token_of (drop (suc k) old.later.items)));
      wave = ap (λ (x : Token). x.wave) is ∙ at.wave;
      instr = ap (λ (x : Token). x.instr) is ∙ at.instr;
      port = ap (λ (x : Token). x.port) is ∙ at.port;
    }

sent_at : (ts : List Token) (k : ℕ) (t : Token) → k < length ts → t ≡ slice_index_or ts k t
    → IsSent (map token_of ts) t.wave t.instr t.port t.value
sent_at [] k t l e = absurd (omega arith)
sent_at (x ∷ ts) zero t l e = grind arith
sent_at (x ∷ ts) (suc k) t l e = inr (sent_at ts k t (omega arith) e)

left_sent : (xs ys : List plain.Token) (w i p v : ℕ) → IsSent xs w i p v → IsSent (xs ++ ys) w i p v
left_sent [] ys w i p v h = absurd h
left_sent (x ∷ xs) ys w i p v (inl h) = inl h
left_sent (x ∷ xs) ys w i p v (inr h) = inr (left_sent xs ys w i p v h)

right_sent : (xs ys : List plain.Token) (w i p v : ℕ) → IsSent ys w i p v → IsSent (xs ++ ys) w i p v
right_sent [] ys w i p v h = h
right_sent (x ∷ xs) ys w i p v h = inr (right_sent xs ys w i p v h)

pub now_sent : (way : Way) (k : ℕ) (t : Token) → k < length way.now.items
    → t ≡ slice_index_or way.now.items k t → IsSent (way_of way) t.wave t.instr t.port t.value
now_sent way k t l e = grind (arith, left_sent, sent_at)

pub later_sent : (way : Way) (k : ℕ) (t : Token) → k < length way.later.items
    → t ≡ slice_index_or way.later.items k t → IsSent (way_of way) t.wave t.instr t.port t.value
later_sent way k t l e = grind (arith, right_sent, sent_at)
