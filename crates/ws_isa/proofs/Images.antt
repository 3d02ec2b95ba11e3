-- Lemmas on images and their lists.
use Rattle.std.proofs.Common.{ℕ, suc, ◌≡◌, List, [], ◌∷◌, ◌++◌, Some, ◌<◌, arith, true, refl, ◌≤◌, ap}
use Rattle.ws_isa.specs.Image.{Instr, ports_of, is_memory_op, is_writing_op, Token, tokens_to, is_writing}
use Rattle.ws_isa.specs.Image.{is_memory, Image, instr_at}
use Rattle.ws_isa.specs.declared.instr.Op.{Op}
use Rattle.std.proofs.lemmas.Bool.{both_ways}
use Rattle.ws_isa.specs.declared.instr.Dest.{Dest}
use Rattle.ws_words.specs.Items.{nth}

pub nth_left : (xs ys : List Instr) (n : ℕ) (i : Instr) → nth xs n ≡ Some i → nth (xs ++ ys) n ≡ Some i
nth_left (x ∷ xs) ys (suc n) i e = nth_left xs ys n i e
nth_left xs ys n i e = grind arith

pub few_ports : (op : Op) → ports_of op < 4
few_ports op = grind arith

pub writing_memory_op : (o : Op) → is_writing_op o ≡ true → is_memory_op o ≡ true
writing_memory_op o e = grind (arith, both_ways)

pub three_ports : (op : Op) → ports_of op ≤ 3
three_ports op = grind arith

pub tokens_append : (w v : ℕ) (xs ys : List Dest) → tokens_to w v (xs ++ ys) ≡ tokens_to w v xs ++ tokens_to w
    v ys
tokens_append w v [] ys = refl
tokens_append w v (x ∷ xs) ys =
    ap (λ (ts : List Token). record { wave = w; instr = x.instr; port = x.port; value = v } ∷ ts)
    (tokens_append w v xs ys)

-- a writing operation is one of memory
pub writing_memory : (image : Image) (k : ℕ) → is_writing image k ≡ true → is_memory image k ≡ true
unfolding is_writing is_memory
writing_memory image k e = writing_memory_op (instr_at image k).op e
