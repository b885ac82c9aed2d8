-- What contracts see of an index of names.
use Rattle.std.specs.Prelude.{ℕ, ◌+◌, ◌-◌, ◌<◌, List, Option, Some, None, is_some, if◌then◌else◌}
use Rattle.b1_model.specs.declared.naming.Key.{Key}
use Rattle.b1_queue.specs.Queue.{IsNewItem, IsNewKey, key_of, with_entry, without}

-- the names with their places in the order of the names, how many more fit with no memory, and a number above every place
pub record Names : Type 0 where
  pub listed : List (Key × ℕ)
  pub spare : ℕ
  pub room : ℕ

-- a place gets its name, if it has one
abbrev pub with_name : Option Key → ℕ → Names → Names
with_name None place names = names
with_name (Some name) place names = record names { listed = with_entry name place names.listed; spare = names.spare - 1 }

-- a place has no name any more
abbrev pub without_name : ℕ → Names → Names
without_name place names = record names {
  listed = without place names.listed;
  spare = names.spare + (if is_some (key_of place names.listed) then 1 else 0);
}

-- a name that a place can get: there is room for it, and neither has the other yet
pub record CanName (names : Names) (place : ℕ) (name : Key) : Type 0 where
  pub spare : 0 < names.spare
  pub in_room : place < names.room
  pub new_name : IsNewKey name names.listed
  pub new_place : IsNewItem place names.listed
