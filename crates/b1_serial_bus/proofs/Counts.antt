-- Each whole command adds one call to its peer, and none to any other.
use Rattle.std.specs.Prelude.{◌≡◌, refl, ℕ, Bool, true, false, not, if◌then◌else◌, List, [], ◌∷◌, length, zip, slice_get, filter_map, Option, Some, None, option_map}
use Rattle.std.proofs.Common.{sym, ap, ◌∙◌}
use Rattle.std.proofs.lemmas.Option.{same_Some, slice_get-map}
use Rattle.b1_model.specs.declared.naming.Key.{Key}
use Rattle.b1_model.specs.declared.naming.NodeRef.{NodeRef}
use Rattle.b1_model.specs.declared.entries.Entry.{Entry}
use Rattle.b1_model.specs.declared.commands.Command.{Command}
use Rattle.b1_model.specs.declared.commands.Command.TheVariants as cmd
use Rattle.b1_model.specs.declared.commands.SendCmd.{SendCmd}
use Rattle.b1_model.specs.declared.answers.Answer.{Answer}
use Rattle.b1_model.specs.declared.answers.Answer.TheVariants as ans
use Rattle.b1_model.specs.declared.answers.Reason.{Reason}
use Rattle.b1_model.specs.declared.answers.Reason.TheVariants as reason
use Rattle.b1_model.specs.Names.{is_given}
use Rattle.b1_model.specs.MachinePool.{given_back, is_received}
use Rattle.b1_model.specs.MachineSend.{first_reason}
use Rattle.b1_model.specs.MachineDriver.{refused_at}
use Rattle.b1_model.specs.Script.{resolved}
use Rattle.b1_schedule.specs.Shortage.{Shortage}
use Rattle.b1_serial_bus.specs.Parts.{Part, Bus, at_peer, called}
use Rattle.b1_serial_bus.specs.Named.{held_node, making}
use Rattle.b1_serial_bus.specs.Lives.{live_serials}
use Rattle.b1_serial_bus.specs.GivenUp.{given_up}
use Rattle.b1_serial_bus.specs.Letters.{Letter, Places, accepted, stamp_of}
use Rattle.b1_serial_bus.specs.Begin.{begin_reasons}
use Rattle.b1_serial_bus.specs.Delivery.{delivered_from}
use Rattle.b1_serial_bus.specs.Send.{send_refusal, send_called, sent, after_places, after_begin, after_send}
use Rattle.b1_serial_bus.specs.Arrival.{taken_entry}
use Rattle.b1_serial_bus.specs.Receive.{cleared, received_from, received}
use Rattle.b1_serial_bus.specs.Doom.{doom_stamp, destroyed}
use Rattle.b1_serial_bus.specs.Destroy.{live_serial, overflow_reason, destroy_reasons, destroy_named, after_destroy}
use Rattle.b1_serial_bus.specs.Flush.{all_references, emptied, flushed, flush, ended_by, after_reset}
use Rattle.b1_serial_bus.specs.Small.{with_released, not_released, after_release, slice_released, queried, limited}
use Rattle.b1_serial_bus.specs.Commands.{as_called, after_open, after_command, after_command_of}
use Rattle.b1_serial_bus.proofs.Shapes.{shape, shapes, more, one_more, IsCall, quiet_at, call_at, quiet_fold, called_more}
use Rattle.b1_serial_bus.proofs.Quiet.{given_up_quiet, delivered_from_quiet, taken_quiet, destroyed_quiet}

-- ---- SEND

sent_counts : (c : SendCmd) (s : Letter) (places : Places) (stamp : ℕ) (x : Part) (bus : Bus) → shapes (sent c s places stamp x bus) ≡ one_more x.me (shapes bus)
sent_counts c s places stamp x bus =
    call_at x.me _ (delivered_from s stamp 0 (zip s.to places) bus) (λ y. called_more (cmd.Send c) _ (record y { clock = stamp }))
    ∙ ap (one_more x.me) (delivered_from_quiet s stamp 0 (zip s.to places) bus)

refused_counts : (c : SendCmd) (answer : Answer) (x : Part) (bus : Bus) → shapes (send_called c answer x bus) ≡ one_more x.me (shapes bus)
refused_counts c answer x bus = call_at x.me (called (cmd.Send c) answer) bus (λ y. called_more (cmd.Send c) answer y)

places_count : (c : SendCmd) (s : Letter) (places : Places) (x : Part) (bus : Bus) → shapes (after_places c s places x bus) ≡ one_more x.me (shapes bus)
places_count c s places x bus = by (send_refusal c.go_on s places)
  where
    by : (r : Option Answer) → shapes (elim r [ Some answer ↦ send_called c answer x bus | None ↦ sent c s places (stamp_of bus s x.clock (accepted s places)) x bus ]) ≡ one_more x.me (shapes bus)
    by (Some answer) = refused_counts c answer x bus
    by None = sent_counts c s places _ x bus

send_counts : (short : Option ℕ → Bool) (c : SendCmd) (x : Part) (bus : Bus) → shapes (after_send short c x bus) ≡ one_more x.me (shapes bus)
send_counts short c x bus = by (first_reason (begin_reasons x c (short None)))
  where
    by : (r : Option Reason) → shapes (elim r [ Some r ↦ send_called c (refused_at r None) x bus | None ↦ after_begin short c (making c.with x) (at_peer x.me (making c.with) bus) ]) ≡ one_more x.me (shapes bus)
    by (Some r) = refused_counts c (refused_at r None) x bus
    by None = places_count c _ _ (making c.with x) (at_peer x.me (making c.with) bus) ∙ ap (one_more x.me) (quiet_at x.me (making c.with) bus (λ y. refl))

-- ---- RECV

received_counts : (box : List (Key × Entry)) (y : Part) → shape (received_from box y) ≡ more (shape y)
received_counts [] y = called_more cmd.Recv _ y
received_counts (f ∷ rest) y =
    called_more cmd.Recv _ (taken_entry f.0 f.1 (record y { box = rest })).1
    ∙ ap more (taken_quiet f.0 f.1 (record y { box = rest }))

pub received_is_call : IsCall received
received_is_call y = received_counts (cleared y).box (cleared y)

-- ---- NODES_DESTROY

destroy_counts : (numbers : List ℕ) (x : Part) (bus : Bus) → shapes (after_destroy numbers x bus) ≡ one_more x.me (shapes bus)
destroy_counts numbers x bus = by (first_reason (destroy_reasons x numbers))
  where
    doomed : List ℕ
    doomed = filter_map (live_serial x) numbers

    by : (r : Option Reason) → shapes (elim r [ Some r ↦ at_peer x.me (called (cmd.Destroy numbers) (refused_at r None)) bus | None ↦ destroy_named numbers doomed x bus ]) ≡ one_more x.me (shapes bus)
    by (Some r) = call_at x.me (called (cmd.Destroy numbers) (refused_at r None)) bus (λ y. called_more (cmd.Destroy numbers) (refused_at r None) y)
    by None =
        call_at x.me _ (destroyed (doom_stamp x doomed bus) x doomed bus) (λ y. called_more (cmd.Destroy numbers) _ y)
        ∙ ap (one_more x.me) (destroyed_quiet (doom_stamp x doomed bus) x doomed bus)

-- ---- PEER_RESET with flush, PEER_DISCONNECT

flushed_counts : (command : Command) (stamp : Option ℕ) (x : Part) (bus : Bus) → shapes (flushed command stamp x bus) ≡ one_more x.me (shapes bus)
flushed_counts command stamp x bus =
    quiet_fold (given_up x.clock) (all_references x) (at_peer x.me (emptied command stamp) bus) (λ b y. given_up_quiet x.clock b y)
    ∙ call_at x.me (emptied command stamp) bus (λ y. called_more command (ans.Reset stamp) y)

-- where the peer is there
flush_counts : (command : Command) (stamp : Option ℕ) (p n : ℕ) (bus : Bus) → slice_get (shapes bus) p ≡ Some (p, n) → shapes (flush command stamp p bus) ≡ one_more p (shapes bus)
flush_counts command stamp p n bus at = by (slice_get bus p) (sym (slice_get-map shape bus p) ∙ at)
  where
    by : (found : Option Part) → option_map shape found ≡ Some (p, n) → shapes (elim found [ None ↦ bus | Some x ↦ flushed command stamp x bus ]) ≡ one_more p (shapes bus)
    by None e = cc
    by (Some y) e =
        let me : y.me ≡ p = ap (λ s. s.0) (same_Some (shape y) (p, n) e) in
        flushed_counts command stamp y bus ∙ ap (λ q. one_more q (shapes bus)) me

module _ (command : Command) (x : Part) (bus : Bus) (there : slice_get bus x.me ≡ Some x) where
  here : slice_get (shapes bus) x.me ≡ Some (shape x)
  here = slice_get-map shape bus x.me ∙ ap (option_map shape) there

  ended_counts : (doomed : List ℕ) → shapes (ended_by command doomed x bus) ≡ one_more x.me (shapes bus)
  ended_counts [] = flush_counts command None x.me (length x.calls) bus here
  ended_counts (serial ∷ rest) =
      let stamp = doom_stamp x (serial ∷ rest) bus in
      let same = destroyed_quiet stamp x (serial ∷ rest) bus in
      flush_counts command (Some stamp) x.me (length x.calls) (destroyed stamp x (serial ∷ rest) bus) (ap (λ ss. slice_get ss x.me) same ∙ here)
      ∙ ap (one_more x.me) same

  reset_counts : shapes (after_reset command x bus) ≡ one_more x.me (shapes bus)
  reset_counts = by (overflow_reason x)
    where
      by : (r : Option Reason) → shapes (elim r [ Some r ↦ at_peer x.me (called command (refused_at r None)) bus | None ↦ ended_by command (live_serials x) x bus ]) ≡ one_more x.me (shapes bus)
      by (Some r) = call_at x.me (called command (refused_at r None)) bus (λ y. called_more command (refused_at r None) y)
      by None = ended_counts (live_serials x)

-- ---- the small ones

release_counts : (number : ℕ) (x : Part) (bus : Bus) → shapes (after_release number x bus) ≡ one_more x.me (shapes bus)
release_counts number x bus = form (is_given number)
  where
    refused : (r : Reason) → shapes (at_peer x.me (not_released number r) bus) ≡ one_more x.me (shapes bus)
    refused r = call_at x.me (not_released number r) bus (λ y. called_more (cmd.Release number) _ y)

    after : Option NodeRef → Bus
    after found = elim found [ None ↦ at_peer x.me (not_released number (reason.Unknown number)) bus | Some node ↦ given_up x.clock (at_peer x.me (with_released number) bus) node ]

    by : (found : Option NodeRef) → shapes (after found) ≡ one_more x.me (shapes bus)
    by None = refused (reason.Unknown number)
    by (Some node) =
        given_up_quiet x.clock (at_peer x.me (with_released number) bus) node
        ∙ call_at x.me (with_released number) bus (λ y. called_more (cmd.Release number) ans.Done y)

    form : (b : Bool) → shapes (if not b then at_peer x.me (not_released number reason.Invalid) bus else after (held_node x number)) ≡ one_more x.me (shapes bus)
    form false = refused reason.Invalid
    form true = by (held_node x number)

slice_is_call : (offset : ℕ) → IsCall (slice_released offset)
slice_is_call offset x = by (is_received offset x.slices)
  where
    by : (b : Bool) → shape (if b then called (cmd.SliceRelease offset) ans.Done (record x { slices = given_back offset x.slices }) else called (cmd.SliceRelease offset) (refused_at (reason.Unknown offset) None) x) ≡ more (shape x)
    by true = called_more (cmd.SliceRelease offset) _ (record x { slices = given_back offset x.slices })
    by false = called_more (cmd.SliceRelease offset) _ x

-- ---- any command

open_counts : (m : Shortage) (command : Command) (x : Part) (bus : Bus) → slice_get bus x.me ≡ Some x → shapes (after_open m command x bus) ≡ one_more x.me (shapes bus)
open_counts m (cmd.Send c) x bus there = send_counts (m x.me (length x.calls)) c x bus
open_counts m cmd.Recv x bus there = call_at x.me received bus received_is_call
open_counts m cmd.Await x bus there = call_at x.me received bus received_is_call
open_counts m (cmd.Release number) x bus there = release_counts number x bus
open_counts m (cmd.Destroy numbers) x bus there = destroy_counts numbers x bus
open_counts m (cmd.Reset limits) x bus there = reset_counts (cmd.Reset limits) x bus there
open_counts m cmd.Disconnect x bus there = reset_counts cmd.Disconnect x bus there
open_counts m (cmd.SliceRelease offset) x bus there = call_at x.me (slice_released offset) bus (slice_is_call offset)
open_counts m cmd.Query x bus there = call_at x.me queried bus (λ y. called_more cmd.Query _ y)
open_counts m (cmd.Limit limits) x bus there = call_at x.me (limited limits) bus (λ y. called_more (cmd.Limit limits) ans.Done y)

command_counts : (m : Shortage) (command : Command) (x : Part) (bus : Bus) → slice_get bus x.me ≡ Some x → shapes (after_command m command x bus) ≡ one_more x.me (shapes bus)
command_counts m command x bus there = by x.shut
  where
    by : (b : Bool) → shapes (if b then at_peer x.me (called (as_called command) (refused_at reason.Shutdown None)) bus else after_open m command x bus) ≡ one_more x.me (shapes bus)
    by true = call_at x.me (called (as_called command) (refused_at reason.Shutdown None)) bus (λ y. called_more (as_called command) _ y)
    by false = open_counts m command x bus there

-- a command of peer p adds one call to p, and no other
pub counts : (m : Shortage) (p : ℕ) (command : Command) (x : Part) (bus : Bus) → slice_get bus p ≡ Some x → x.me ≡ p → shapes (after_command_of m p command bus) ≡ one_more p (shapes bus)
counts m p command x bus there me = by (slice_get bus p) there
  where
    by : (found : Option Part) → found ≡ Some x → shapes (elim found [ None ↦ bus | Some y ↦ after_command m (resolved command y.calls) y bus ]) ≡ one_more p (shapes bus)
    by None e = cc
    by (Some y) e =
        let same : y ≡ x = same_Some y x e in
        let at : y.me ≡ p = ap (λ z. z.me) same ∙ me in
        command_counts m (resolved command y.calls) y bus (ap (slice_get bus) at ∙ there ∙ ap Some (sym same)) ∙ ap (λ q. one_more q (shapes bus)) at
