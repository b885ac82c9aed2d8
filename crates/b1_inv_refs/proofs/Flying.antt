-- A step keeps given numbers and flights right.
use Rattle.std.proofs.Common.{◌≡◌, ◌≢◌, ◌⊎◌, refl, sym, ◌∙◌, inl, inr, subst, ℕ, ◌==◌, not, Option, Some, None}
use Rattle.std.specs.Prelude.{⊤}
use Rattle.std.proofs.lemmas.Bool.{not-true, eqb-false}
use Rattle.b1_model.specs.declared.commands.Command.{Command}
use Rattle.b1_model.specs.declared.naming.NodeRef.{NodeRef}
use Rattle.b1_model.specs.declared.naming.Opening.{Opening}
use Rattle.b1_model.specs.declared.events.Phase.{Phase}
use Rattle.b1_model.specs.declared.events.Phase.TheVariants.{Starting, Staging, Unstaging, Attaching, Stamping, Syncing, Committing}
use Rattle.b1_model.specs.MachineParts.{PeerPart, State, carried, slots_of}
use Rattle.b1_model.specs.MachineTables.{foreign, more_flight, less_flight, more_held, less_held, noticed, made_dead, next_number}
use Rattle.b1_model.specs.MachineEvents.{begun_of}
use Rattle.b1_model.specs.MachineStep.{Step}
use Rattle.b1_step.specs.Rights.{Has}
use Rattle.b1_step.proofs.Lists.{filter_has, has_all}
use Rattle.b1_inv.specs.Words.{IsPeer, IsMade}
use Rattle.b1_inv.specs.Sends.{SendShape}
use Rattle.b1_inv.specs.Numbers.{AreNumbered, NumbersRight}
use Rattle.b1_inv.specs.References.{FlightsRight, AreFilled, carried_times}
use Rattle.b1_inv.specs.Sound.{IsSound}
use Rattle.b1_inv_tools.proofs.Leaves.{Did, step_did, peer_cases}
use Rattle.b1_inv_tools.proofs.Grows.{made_stays}
use Rattle.b1_inv_refs.proofs.Arrivals.{flight_in}
use Rattle.b1_inv_refs.proofs.Receipts.{Flies, HasSlots}
use Rattle.b1_inv_refs.proofs.Flights.{flies_after}
use Rattle.b1_inv_refs.proofs.Numbered.{EachRecord, each_changed, each_made, numbers_none, numbers_made, numbers_same, numbers_less, numbers_come}
use Rattle.b1_inv_refs.proofs.Tables.{Closed, table_after}

pub numbers_closed : Closed AreNumbered (λ m. ⊤)
numbers_closed = record {
  none = λ g. numbers_none g;
  more = λ g m hs new t. numbers_made g m hs t;
  less = λ g m hs t. numbers_same g m less_flight (λ h. refl) (λ h. refl) (λ h. refl) hs t;
  noticed = λ g m hs t. numbers_same g m noticed (λ h. refl) (λ h. refl) (λ h. refl) hs t;
  dead = λ g m hs t. numbers_same g m made_dead (λ h. refl) (λ h. refl) (λ h. refl) hs t;
  released = λ g m hs t. numbers_less g m hs t;
  come = λ g m hs t. numbers_come g less_flight (λ h. refl) (λ h. refl) (λ h. refl) m hs t;
}

nodes_closed : (Q : NodeRef → Type 0) → Closed (λ g hs. EachRecord (λ h. Q h.node) hs) Q
nodes_closed Q = record {
  none = λ g h there. absurd there;
  more = λ g m hs new t. each_made (λ h. Q h.node) m more_flight (λ h q. q) new hs t;
  less = λ g m hs t. each_changed (λ h. Q h.node) m less_flight (λ h q. q) hs t;
  noticed = λ g m hs t. each_changed (λ h. Q h.node) m noticed (λ h q. q) hs t;
  dead = λ g m hs t. each_changed (λ h. Q h.node) m made_dead (λ h q. q) hs t;
  released = λ g m hs t. each_changed (λ h. Q h.node) m less_held (λ h q. q) hs t;
  come = λ g m hs t. each_changed (λ h. Q h.node) m (λ r. more_held (next_number g) (less_flight r)) (λ h q. q) hs t;
}

-- the nodes that an open SEND carries were made
pub carries_made : (s : State) (command : Command) (phase : Phase) → (phase ≡ Starting → ⊥) → SendShape s command phase → (n : NodeRef) → Has (begun_of phase).with n → IsMade s n
carries_made s command Starting not_start shape n h = absurd (not_start refl)
carries_made s command (Staging begun places collected) not_start shape n h = has_all (IsMade s) begun.with n shape.0.with h
carries_made s command (Unstaging begun places refused place) not_start shape n h = has_all (IsMade s) begun.with n shape.0.with h
carries_made s command (Attaching sending place j) not_start shape n h = has_all (IsMade s) sending.begun.with n shape.0.begun.with h
carries_made s command (Stamping sending) not_start shape n h = has_all (IsMade s) sending.begun.with n shape.begun.with h
carries_made s command (Syncing sending stamp place) not_start shape n h = has_all (IsMade s) sending.begun.with n shape.0.begun.with h
carries_made s command (Committing sending stamp place) not_start shape n h = has_all (IsMade s) sending.begun.with n shape.0.begun.with h
carries_made s command phase not_start shape n h = absurd h

module _ {o : Opening} {s : State} {p : ℕ} {command : Option Command} {t : State} (sound : IsSound o s) (step : Step o s p command t) where
  k : Did o step.local.memory step.driver command step.peer step.action step.at step.new_driver step.new_peer
  k = step_did step

  me_is : step.peer.me ≡ step.at
  me_is = (sound.numbered.peers step.at step.peer step.is_peer).me

  -- ---- numbers

  numbers_at : (q : ℕ) (x : PeerPart) → ((q ≡ step.at) × (x ≡ step.new_peer)) ⊎ ((q ≢ step.at) × IsPeer s q x) → AreNumbered x.given x.handles
  numbers_at q x (inl here) =
      subst (λ z. AreNumbered z.given z.handles) (sym (here.1 ∙ k.peer))
      (table_after AreNumbered (λ m. ⊤) numbers_closed o step.local.memory k.e k.doing step.action step.peer (λ n h. tt) (sound.numbers.numbered step.at step.peer step.is_peer))
  numbers_at q x (inr other) = sound.numbers.numbered q x other.1

  pub numbers_kept : NumbersRight t
  numbers_kept = record { numbered = λ q x is. numbers_at q x (peer_cases step q x is) }

  -- ---- flights

  -- the nodes that the driver's open SEND carries were made
  carried_made : (n : NodeRef) → Has (begun_of k.doing.phase).with n → IsMade s n
  carried_made n h = at k.opened.from
    where
      at : ((step.driver.doing ≡ Some k.doing) ⊎ ((step.driver.doing ≡ None) × (command ≡ Some k.doing.command) × (k.doing.phase ≡ Starting))) → IsMade s n
      at (inl is) = carries_made s k.doing.command k.doing.phase (λ start. subst (SendShape s k.doing.command) start (sound.sends.shape p step.driver k.doing step.is_driver is)) (sound.sends.shape p step.driver k.doing step.is_driver is) n h
      at (inr start) = absurd (subst (λ ph. Has (begun_of ph).with n) start.2 h)

  -- what is known of a record's node
  abbrev Known : ℕ → NodeRef → Type 0
  Known q n = IsMade t n × (n.owner ≢ q)

  new_known : (n : NodeRef) → Has (foreign step.peer.me (begun_of k.doing.phase).with) n → Known step.at n
  new_known n h =
      let both = filter_has (λ m. not (m.owner == step.peer.me)) (begun_of k.doing.phase).with n h in
      (made_stays step n (carried_made n both.0), λ e. eqb-false n.owner step.peer.me (not-true (n.owner == step.peer.me) both.1) (e ∙ sym me_is))

  nodes_at : (q : ℕ) (x : PeerPart) → ((q ≡ step.at) × (x ≡ step.new_peer)) ⊎ ((q ≢ step.at) × IsPeer s q x) → EachRecord (λ h. Known q h.node) x.handles
  nodes_at q x (inl here) =
      subst (λ n. EachRecord (λ h. Known n h.node) x.handles) (sym here.0)
      (subst (λ z. EachRecord (λ h. Known step.at h.node) z.handles) (sym (here.1 ∙ k.peer))
      (table_after (λ g hs. EachRecord (λ h. Known step.at h.node) hs) (Known step.at) (nodes_closed (Known step.at)) o step.local.memory k.e k.doing step.action step.peer new_known
      (λ h there. (made_stays step h.node (sound.flights.made step.at step.peer h step.is_peer there), sound.flights.foreign step.at step.peer h step.is_peer there))))
  nodes_at q x (inr other) = λ h there. (made_stays step h.node (sound.flights.made q x h other.1 there), sound.flights.foreign q x h other.1 there)

  pub peer_flies : (q : ℕ) (x : PeerPart) → IsPeer s q x → Flies x
  peer_flies q x is node apart = sound.flights.counted q x node is (λ e. apart (e ∙ sym (sound.numbered.peers q x is).me))

  pub peer_slots : (q : ℕ) (x : PeerPart) → IsPeer s q x → HasSlots x
  peer_slots q x is f there message committed = subst (λ n. AreFilled n (carried f.1) (slots_of f.1)) (sym (sound.numbered.peers q x is).me) (sound.slots.filled q x f is there message committed)

  flies_at : (q : ℕ) (x : PeerPart) → ((q ≡ step.at) × (x ≡ step.new_peer)) ⊎ ((q ≢ step.at) × IsPeer s q x) → (node : NodeRef) → node.owner ≢ q → flight_in node x.handles ≡ carried_times node x.queue
  flies_at q x (inl here) node apart =
      subst (λ z. flight_in node z.handles ≡ carried_times node z.queue) (sym (here.1 ∙ k.peer))
      (flies_after o step.local.memory k.e k.doing step.action step.peer (sound.rising step.at step.peer step.is_peer) (sound.stages.once step.at step.peer step.is_peer) (peer_slots step.at step.peer step.is_peer) (peer_flies step.at step.peer step.is_peer) node (λ e. apart (e ∙ me_is ∙ sym here.0)))
  flies_at q x (inr other) node apart = sound.flights.counted q x node other.1 apart

  pub flights_kept : FlightsRight t
  flights_kept = record {
    made = λ q x h is there. (nodes_at q x (peer_cases step q x is) h there).0;
    foreign = λ q x h is there. (nodes_at q x (peer_cases step q x is) h there).1;
    counted = λ q x node is apart. flies_at q x (peer_cases step q x is) node apart;
  }
