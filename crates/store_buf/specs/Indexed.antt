-- What is true of each order's requests, their index, how many of them wait, and the chain's wave number.
use Rattle.std.specs.Prelude.{ℕ, suc, ◌+◌, ◌≡◌, ◌<◌, ◌≤◌, List, length, Some}
use Rattle.store_buf.specs.declared.kept.Kept.{Kept}
use Rattle.store_buf.specs.declared.index.Index.{Index}
use Rattle.store_buf.specs.Requests.{request_at, unissued}
use Rattle.store_buf.specs.Finding.{place_in}

-- Each request has its node, and is found by its instance. Wave numbers can't run out.
pub record Indexed (kept : List Kept) (places : Index) (waiting wave : ℕ) : Type 0 where
  pub as_many : length places.nodes.items ≡ length kept
  pub index : (p : ℕ) → p < length kept
      → place_in kept places (request_at kept p).wave (request_at kept p).instr ≡ Some p
  pub count : waiting ≡ unissued kept
  pub waves : wave + waiting ≤ suc (length kept)
