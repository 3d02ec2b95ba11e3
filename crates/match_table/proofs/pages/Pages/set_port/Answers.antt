use Rattle.std.proofs.Common.{◌≡◌, ◌++◌, ◌+◌, ℕ, List, ◌∷◌, [], Option, Some, true, cond}
use Rattle.std.proofs.Common.{ap, ◌∙◌, subst, arith}
use Rattle.df_core.specs.Core.{same_key}
use Rattle.match_table.specs.Pages.{AllCoded, PageContent, PageStore, all_values, code_of, narrow, seen_in}
use Rattle.match_table.specs.Pages.{value_of}
use Rattle.match_table.specs.Ports.{with_half}
use Rattle.match_table.proofs.Codes.{last_value, more_values, no_value, own_value, still_values}
use Rattle.match_table.proofs.pages.Pages.set_port.Goals as goal

pub returns-then-port-lt2-clause-seen : goal.returns-then-port-lt2-clause-seen
returns-then-port-lt2-clause-seen c = let was = c.args.self.now.entries in
    let new = c.set_word-then-port-lt2.new.self.entries in let v = c.args.value in
    let wide = c.set_word-then-port-lt2.ensures.wide ∙ c.list-place.ensures.wide in
    let within : AllCoded was.wide was.slots =
    subst (λ (s : PageStore). AllCoded s.entries.wide s.entries.slots) c.self.view_is c.self.invariant.1 in
    more_values was.wide new.wide was.slots new.slots c.args.wave c.args.half c.args.port
    (code_of true c.list-place.result) v
    (λ a b. ap (λ (x : List ℕ). all_values x (seen_in was.slots a b)) wide
    ∙ still_values was.wide (v ∷ []) (seen_in was.slots a b) (within a b))
    (λ o. ap (with_half o c.args.port)
    (ap (λ (x : List ℕ). value_of x (code_of true c.list-place.result)) wide
    ∙ ap (λ (n : ℕ). value_of (was.wide ++ v ∷ []) (narrow + n)) c.list-place.ensures.place
    ∙ last_value was.wide v))
    (λ a b. subst (λ (x : List (Option PageContent)). seen_in new.slots a b
    ≡ cond (same_key c.args.wave c.args.half a b) (Some (with_half (seen_in x c.args.wave c.args.half)
    c.args.port (code_of true c.list-place.result))) (seen_in x a b)) c.list-place.ensures.slots
    (c.set_word-then-port-lt2.ensures.seen a b))

pub returns-then-value-lt-NARROW-clause-seen : goal.returns-then-value-lt-NARROW-clause-seen
returns-then-value-lt-NARROW-clause-seen c = let was = c.args.self.now.entries in
    let new = c.set_word.new.self.entries in let v = c.args.value in let low = c.if-value-lt-NARROW.true in
    more_values was.wide new.wide was.slots new.slots c.args.wave c.args.half c.args.port v v
    (λ a b. ap (λ (x : List ℕ). all_values x (seen_in was.slots a b)) c.set_word.ensures.wide)
    (λ o. ap (with_half o c.args.port) (own_value new.wide v (omega (arith, low)))) c.set_word.ensures.seen

pub returns-else-port-lt2-clause-seen : goal.returns-else-port-lt2-clause-seen
returns-else-port-lt2-clause-seen c = let was = c.args.self.now.entries in
    let new = c.set_word-else-port-lt2.new.self.entries in let far = c.if-port-lt2.false in
    more_values was.wide new.wide was.slots new.slots c.args.wave c.args.half c.args.port 0 c.args.value
    (λ a b. ap (λ (x : List ℕ). all_values x (seen_in was.slots a b)) c.set_word-else-port-lt2.ensures.wide)
    (λ o. no_value o c.args.port (value_of new.wide 0) c.args.value (omega (arith, far)))
    c.set_word-else-port-lt2.ensures.seen
