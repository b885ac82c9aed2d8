-- The serial bus behind the end of a command, by what the peers have become.
use Rattle.std.proofs.Common.{◌≡◌, ◌≢◌, refl, sym, ap, ◌∙◌, inl, inr, ℕ, List, ◌++◌, Option, Some, None, option_map}
use Rattle.std.specs.Prelude.{slice_get}
use Rattle.std.proofs.lemmas.Bool.{cases_eq}
use Rattle.b1_model.specs.declared.naming.Opening.{Opening}
use Rattle.b1_model.specs.declared.commands.Command.{Command}
use Rattle.b1_model.specs.declared.answers.Answer.{Answer}
use Rattle.b1_model.specs.MachineParts.{PeerPart, DriverPart, State}
use Rattle.b1_model.specs.MachineTook.{call_of}
use Rattle.b1_inv.specs.Words.{IsPeer, IsDriver}
use Rattle.b1_serial_bus.specs.Parts.{Part, at_peer}
use Rattle.b1_serial_rest.specs.Standing.{part_of, parts_of, bus_of}
use Rattle.b1_serial_own.proofs.Shows.{read_at, read_beside}
use Rattle.b1_serial_own.proofs.Amid.{Become, Ended}
use Rattle.b1_serial_own.proofs.Destroys.{same_all, of_both, parts_read}

-- a peer with a call more, if the command gives one
abbrev pub with_call : Command → Answer → Part → Part
with_call command answer y = record y { calls = y.calls ++ call_of command answer }

-- one list of drivers' parts in place of another, which differs for one driver that is there in both
module _ (p : ℕ) (f : Part → Part) (xs : List PeerPart) (ds es : List DriverPart) (x : PeerPart) (d e : DriverPart) (is_x : slice_get xs p ≡ Some x) (is_d : slice_get ds p ≡ Some d) (is_e : slice_get es p ≡ Some e)
    (others : (r : ℕ) → r ≢ p → slice_get es r ≡ slice_get ds r) (same : f (part_of x d) ≡ part_of x e) where
  here : slice_get (parts_of xs es) p ≡ slice_get (at_peer p f (parts_of xs ds)) p
  here =
      parts_read xs es p ∙ ap (λ r. of_both r (slice_get es p)) is_x ∙ ap (of_both (Some x)) is_e ∙ ap Some (sym same)
      ∙ sym (read_at p f (parts_of xs ds) (part_of x d) (parts_read xs ds p ∙ ap (λ r. of_both r (slice_get ds p)) is_x ∙ ap (of_both (Some x)) is_d))

  there : (r : ℕ) → r ≢ p → slice_get (parts_of xs es) r ≡ slice_get (at_peer p f (parts_of xs ds)) r
  there r apart =
      parts_read xs es r ∙ ap (of_both (slice_get xs r)) (others r apart) ∙ sym (parts_read xs ds r)
      ∙ sym (read_beside p r f (parts_of xs ds) (λ e. apart (sym e)))

  pub drivers_changed : parts_of xs es ≡ at_peer p f (parts_of xs ds)
  drivers_changed = same_all (parts_of xs es) (at_peer p f (parts_of xs ds)) (λ r. elim (cases_eq r p) [
    | inl own ↦ ap (slice_get (parts_of xs es)) own ∙ here ∙ ap (slice_get (at_peer p f (parts_of xs ds))) (sym own)
    | inr apart ↦ there r apart
  ])

module _ (o : Opening) (s : State) (p : ℕ) (x : PeerPart) (d : DriverPart) (command : Command) (is_x : IsPeer s p x) (is_d : IsDriver s p d) (u : State) (answer : Answer) (g : Become) (at : Ended o s p d command u answer g) where
  called_so : with_call command answer (part_of (g p x) d) ≡ part_of (g p x) at.driver
  called_so = sym (ap (λ b. record (part_of (g p x) d) { shut = b; calls = at.driver.calls }) at.shut ∙ ap (λ cs. record (part_of (g p x) d) { calls = cs }) at.calls)

  pub ended_shows : bus_of u ≡ at_peer p (with_call command answer) (parts_of u.peers s.drivers)
  ended_shows = drivers_changed p (with_call command answer) u.peers s.drivers u.drivers (g p x) d at.driver (at.peers p ∙ ap (option_map (g p)) is_x) is_d at.is_driver at.others called_so

-- where no peer has changed
pub unchanged : (s : State) (peers : List PeerPart) (g : Become) → ((q : ℕ) (z : PeerPart) → g q z ≡ z) → ((q : ℕ) → slice_get peers q ≡ option_map (g q) (slice_get s.peers q)) → peers ≡ s.peers
unchanged s peers g none become = same_all peers s.peers (λ q. become q ∙ by q (slice_get s.peers q))
  where
    by : (q : ℕ) (r : Option PeerPart) → option_map (g q) r ≡ r
    by q None = refl
    by q (Some z) = ap Some (none q z)
