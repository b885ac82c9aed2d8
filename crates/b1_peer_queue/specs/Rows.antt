-- What a queue of entries is made of: keys with places in the queue's order, what stands at each place, the staged notices, and the names of the entries that are looked for one by one.
use Rattle.std.specs.Prelude.{◌≡◌, ℕ, ◌+◌, ◌≤◌, Bool, ◌&&◌, ◌==◌, not, is_some, if◌then◌else◌, ⊤, List, length, map, filter, find, All, Option, Some, None, IsSome}
use Rattle.b1_model.specs.declared.naming.Key.{Key}
use Rattle.b1_model.specs.declared.entries.Entry.{Entry}
use Rattle.b1_model.specs.declared.entries.Entry.TheVariants.{Message, OwnNotice, ForeignNotice, ReleaseNotice}
use Rattle.b1_model.specs.MachineParts.{is_data, is_odd, is_staged, is_release_notice}
use Rattle.b1_model.specs.MachineTables.{is_stage, is_staged_notice}
use Rattle.b1_queue.specs.Queue.{IsQueue, key_of}
use Rattle.b1_entry.specs.Table.{Table, entry_at}
use Rattle.b1_peer_queue.specs.Names.{Names}
use Rattle.b1_peer_queue.specs.declared.wanted.Wanted.{Wanted}
use Rattle.b1_peer_queue.specs.declared.wanted.Wanted.TheVariants.{Stage, Notice, Release}

-- a queue of entries, and how many more fit with no memory
pub record Queued : Type 0 where
  pub queue : List (Key × Entry)
  pub spare : ℕ

-- a staged notice, which is marked
abbrev pub is_marked : Key × Entry → Bool
is_marked f = is_staged f && not (is_data f.1)

-- the name of the message that a driver has staged for a place
abbrev pub stage_name : ℕ → ℕ → Key
stage_name origin index = record { stamp = 1; origin = origin; index = index }

-- the name of a node's release notice
abbrev pub release_name : ℕ → Key
release_name serial = record { stamp = 0; origin = 0; index = serial }

-- the name of an entry: a staged message and a release notice have one
abbrev pub name_of : Key × Entry → Option Key
name_of (k, Message origin user index serial offset len nodes slots handles payload) = if is_odd k.stamp then Some (stage_name k.origin k.index) else None
name_of (k, OwnNotice serial index) = None
name_of (k, ForeignNotice node index) = None
name_of (k, ReleaseNotice serial) = Some (release_name serial)

-- the name of what is looked for, where it is one by itself
abbrev pub name_wanted : Wanted → Option Key
name_wanted (Stage origin index) = Some (stage_name origin index)
name_wanted (Notice origin) = None
name_wanted (Release serial) = Some (release_name serial)

-- no entry of a queue has the name of a new one
abbrev pub IsNewName : Key → Entry → List (Key × Entry) → Type 0
IsNewName key (Message origin user index serial offset len nodes slots handles payload) queue = find (is_stage key.origin key.index) queue ≡ None
IsNewName key (OwnNotice serial index) queue = ⊤
IsNewName key (ForeignNotice node index) queue = ⊤
IsNewName key (ReleaseNotice serial) queue = find (is_release_notice serial) queue ≡ None

-- whether an entry is what is looked for
abbrev pub passes : Wanted → Key × Entry → Bool
passes (Stage origin index) f = is_stage origin index f
passes (Notice origin) f = is_staged_notice origin f
passes (Release serial) f = is_release_notice serial f

-- an entry that is there
abbrev pub entry_or : Option Entry → Entry
entry_or None = ReleaseNotice 0
entry_or (Some e) = e

-- what a key's place has
abbrev pub row : List (Option Entry) → Key × ℕ → Key × Entry
row slots e = (e.0, entry_or (entry_at slots e.1))

-- the queue's keys with what their places have
abbrev pub shown : List (Option Entry) → List (Key × ℕ) → List (Key × Entry)
shown slots listed = map (row slots) listed

-- the name of what stands at a listed place, if it has one
abbrev pub name_at : List (Option Entry) → Option (Key × ℕ) → Option Key
name_at slots None = None
name_at slots (Some e) = name_of (row slots e)

-- an entry that has no name
abbrev pub is_unnamed : Key × Entry → Bool
is_unnamed f = not (is_some (name_of f))

-- each place has its name, and there is room for more names, where each named entry leaves room when it goes
pub record IsNamed (spare : ℕ) (listed : List (Key × ℕ)) (slots : List (Option Entry)) (room : ℕ) (names : Names) : Type 0 where
  pub named : (place : ℕ) → key_of place names.listed ≡ name_at slots (find (λ e. e.1 == place) listed)
  pub order : IsQueue names.room names.listed
  pub fits : spare + length (filter (λ e. is_unnamed (row slots e)) listed) ≤ names.spare
  pub places : room ≤ names.room

-- the lists are tied: there is room, each listed place has an entry, the marks are the staged notices, and each place has its name
pub record IsTied (spare len queue_spare queue_room : ℕ) (listed : List (Key × ℕ)) (table : Table) (capacity : ℕ) (marks : List (Key × ℕ)) (names : Names) : Type 0 where
  pub queue_fits : spare ≤ queue_spare
  pub table_fits : spare ≤ table.spare
  pub marks_fit : spare + len ≤ capacity
  pub places_fit : table.room ≤ queue_room
  pub counted : len ≡ length listed
  pub filled : All (λ e. IsSome (entry_at table.slots e.1)) listed
  pub marked : marks ≡ filter (λ e. is_marked (row table.slots e)) listed
  pub naming : IsNamed spare listed table.slots table.room names
