-- Items that were put into seats.
use Rattle.std.specs.Prelude.{◌≡◌, ◌⊎◌, ℕ, ◌+◌, ◌<◌, ◌≤◌, Bool, List, [], ◌∷◌, ◌++◌, count_by, length}
use Rattle.std.specs.Prelude.{slice_index_or}
use Rattle.crossbeam_deque.specs.Handles.{worker_capacity, worker_index, worker_view}
use Rattle.ready_pool.specs.declared.seat.Seat.{Seat}

module _ {T : Type 0} where
  -- all that seats have put into their own deques, seat after seat
  abbrev pub all_put : List (Seat T) → List T
  all_put [] = []
  all_put (s ∷ ss) = (worker_view s.own.worker).put ++ all_put ss

  -- the deque of one of these seats has had as many items as it had slots
  abbrev pub SomeFull : List (Seat T) → List (Seat T) → Type 0
  SomeFull old new = (i : ℕ) × (i < length old)
      × ((d : Seat T) → worker_capacity (slice_index_or old i d).own.worker
      ≤ worker_index (slice_index_or new i d).own.worker)

  -- Each of these items, and no other, was put into a seat, unless a deque is full or there is no seat.
  pub record Dealt (old : List (Seat T)) (xs : List T) (new : List (Seat T)) : Type 0 where
    pub count : length new ≡ length old
    pub wider : (i : ℕ) (d : Seat T) → i < length old → worker_capacity (slice_index_or old i d).own.worker
        ≤ worker_capacity (slice_index_or new i d).own.worker
    pub further : (i : ℕ) (d : Seat T) → i < length old → worker_index (slice_index_or old i d).own.worker
        ≤ worker_index (slice_index_or new i d).own.worker
    pub all : ((p : T → Bool) → count_by p (all_put new) ≡ count_by p (all_put old) + count_by p xs)
        ⊎ ((old ≡ []) ⊎ SomeFull old new)
