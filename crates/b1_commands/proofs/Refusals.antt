-- Which reasons refuse a command at its first event, and a destination of a SEND.
use Rattle.std.proofs.Common.{◌≡◌, refl, subst, ℕ, ◌==◌, Bool, true, false, cond, not, List, [], ◌∷◌, map, find, filter, length, Option, Some, None, Err, option_map}
use Rattle.std.specs.Bool.{then_some}
use Rattle.b1_model.specs.declared.naming.NodeRef.{NodeRef}
use Rattle.b1_model.specs.declared.answers.Quantity.{Quantity}
use Rattle.b1_model.specs.declared.answers.Quantity.TheVariants.{Entries, Bytes, Handles}
use Rattle.b1_model.specs.declared.answers.Reason.{Reason}
use Rattle.b1_model.specs.declared.answers.Reason.TheVariants as reason
use Rattle.b1_model.specs.declared.commands.Command.{Command}
use Rattle.b1_model.specs.declared.commands.Command.TheVariants as cmd
use Rattle.b1_model.specs.declared.commands.SendCmd.{SendCmd}
use Rattle.b1_model.specs.Names.{is_own, is_given}
use Rattle.b1_model.specs.MachineParts.{PeerPart, HandleRecord, is_destroyed, node_at}
use Rattle.b1_model.specs.MachineTables.{over_quota, serial_of, is_number, charged, limit_of, amount, within_quota}
use Rattle.b1_model.specs.MachineSend.{first_reason, send_reasons, send_refusal, stage_reasons, stage_refusal, dead_reason, is_unknown}
use Rattle.b1_model.specs.MachineReceive.{released_by}
use Rattle.b1_model.specs.MachineDestroy.{overflow_reason, destroy_refusal, is_not_live, is_bad_destroy}
use Rattle.b1_model.specs.MachinePool.{slice_len, largest_free}
use Rattle.b1_commands.specs.Done.{may_refuse, is_shut_reason}
use Rattle.b1_model.specs.MachineTook.{is_again}

-- a reason may refuse a command, and is neither a disconnect nor an absent or staged front
pub record IsRight (c : Command) (r : Reason) : Type 0 where
  pub may : may_refuse r c ≡ true
  pub open_at : is_shut_reason r ≡ false
  pub taken : is_again r ≡ false

-- of a reason that may not be there
abbrev pub IfRight : Command → Option Reason → Type 0
IfRight c None = Unit {0}
IfRight c (Some r) = IsRight c r

module _ (c : Command) where
  abbrev AllRight : List (Option Reason) → Type 0
  AllRight [] = Unit {0}
  AllRight (r ∷ rest) = IfRight c r × AllRight rest

  first_right : (rs : List (Option Reason)) → AllRight rs → IfRight c (first_reason rs)
  first_right [] all = tt
  first_right (None ∷ rest) all = first_right rest all.1
  first_right (Some r ∷ rest) all = all.0

  then_right : (b : Bool) (r : Reason) → IsRight c r → IfRight c (then_some b r)
  then_right true r is = is
  then_right false r is = tt

  found_right : (n : Option ℕ) → ((n : ℕ) → IsRight c (reason.Unknown n)) → IfRight c (option_map (λ number. reason.Unknown number) n)
  found_right None right = tt
  found_right (Some n) right = right n

right : (c : Command) (r : Reason) → may_refuse r c ≡ true → is_shut_reason r ≡ false → is_again r ≡ false → IsRight c r
right c r may open_at taken = record { may = may; open_at = open_at; taken = taken }

-- ---- SEND

module _ (s : SendCmd) where
  abbrev send : Command
  send = cmd.Send s

  dead_right : (x : PeerPart) (number : ℕ) → IfRight send (dead_reason x number)
  dead_right x number = by (is_own number) (serial_of number x.nodes) (find (is_number number) x.handles)
    where
      own : (serial : Option ℕ) → IfRight send (elim serial as (λ z. Option Reason) [ None ↦ None | Some one ↦ then_some (is_destroyed (node_at x one).state) (reason.Gone x.me one) ])
      own None = tt
      own (Some one) = then_right send (is_destroyed (node_at x one).state) (reason.Gone x.me one) (right send (reason.Gone x.me one) refl refl refl)

      given : (h : Option HandleRecord) → IfRight send (elim h as (λ z. Option Reason) [ None ↦ None | Some one ↦ then_some one.dead (reason.Gone one.node.owner one.node.serial) ])
      given None = tt
      given (Some one) = then_right send one.dead (reason.Gone one.node.owner one.node.serial) (right send (reason.Gone one.node.owner one.node.serial) refl refl refl)

      by : (b : Bool) (serial : Option ℕ) (h : Option HandleRecord) → IfRight send (cond b (elim serial as (λ z. Option Reason) [ None ↦ None | Some one ↦ then_some (is_destroyed (node_at x one).state) (reason.Gone x.me one) ]) (elim h as (λ z. Option Reason) [ None ↦ None | Some one ↦ then_some one.dead (reason.Gone one.node.owner one.node.serial) ]))
      by true serial h = own serial
      by false serial h = given h

  all_dead : (x : PeerPart) (numbers : List ℕ) → AllRight send (map (dead_reason x) numbers)
  all_dead x [] = tt
  all_dead x (n ∷ rest) = (dead_right x n, all_dead x rest)

  unknown : (n : ℕ) → IsRight send (reason.Unknown n)
  unknown n = right send (reason.Unknown n) refl refl refl

  pub send_right : (x : PeerPart) (c : SendCmd) → IfRight send (send_refusal x c)
  send_right x c = first_right send (send_reasons x c) (then_right send _ reason.Invalid (right send reason.Invalid refl refl refl), (then_right send _ (reason.Size (length c.payload)) (right send (reason.Size (length c.payload)) refl refl refl), (then_right send _ (reason.Overflow x.clock) (right send (reason.Overflow x.clock) refl refl refl), (found_right send (find (is_unknown x) c.to) unknown, (found_right send (find (is_unknown x) (filter is_given c.with)) unknown, (first_right send (map (dead_reason x) c.with) (all_dead x c.with), tt))))))

  quota_right : (x : PeerPart) (user payload handles : ℕ) (what : Quantity) → IfRight send (over_quota x user payload handles what)
  quota_right x user payload handles what =
      by (within_quota (user == x.user) (charged what (λ u. u == user) x.queue) (charged what (λ u. not (u == user)) x.queue) (limit_of what x.limits) (amount what payload handles))
      (charged what (λ u. u == user) x.queue) (charged what (λ u. not (u == user)) x.queue) (limit_of what x.limits) (amount what payload handles)
    where
      by : (b : Bool) (own others limit asked : ℕ) → IfRight send (cond b None (Some (reason.Quota what own others limit asked)))
      by true own others limit asked = tt
      by false own others limit asked = right send (reason.Quota what own others limit asked) refl refl refl

  pub stage_right : (x : PeerPart) (user serial payload handles : ℕ) → IfRight send (stage_refusal x user serial payload handles)
  stage_right x user serial payload handles = first_right send (stage_reasons x user serial payload handles) (then_right send _ (reason.Gone x.me serial) (right send (reason.Gone x.me serial) refl refl refl), (then_right send _ (reason.Overflow x.clock) (right send (reason.Overflow x.clock) refl refl refl), (quota_right x user payload handles Entries, (quota_right x user payload handles Bytes, (quota_right x user payload handles Handles, (then_right send _ (reason.Full (slice_len payload handles) (largest_free x.slices)) (right send (reason.Full (slice_len payload handles) (largest_free x.slices)) refl refl refl), tt))))))

  pub memory_right : IsRight send reason.Memory
  memory_right = right send reason.Memory refl refl refl

-- ---- destructions

pub overflow_right : (c : Command) (x : PeerPart) → may_refuse (reason.Overflow x.clock) c ≡ true → IfRight c (overflow_reason x)
overflow_right c x may = then_right c _ (reason.Overflow x.clock) (right c (reason.Overflow x.clock) may refl refl)

pub destroy_right : (numbers : List ℕ) (x : PeerPart) (others : List ℕ) → IfRight (cmd.Destroy numbers) (destroy_refusal x others)
destroy_right numbers x others =
    let c : Command = cmd.Destroy numbers in
    first_right c (then_some (is_bad_destroy others) reason.Invalid ∷ overflow_reason x ∷ option_map (λ number. reason.Unknown number) (find (is_not_live x) others) ∷ []) (then_right c _ reason.Invalid (right c reason.Invalid refl refl refl), (overflow_right c x refl, (found_right c (find (is_not_live x) others) (λ n. right c (reason.Unknown n) refl refl refl), tt)))

-- ---- HANDLE_RELEASE

pub released_right : (number : ℕ) (b : Bool) (held : Option NodeRef) (x : PeerPart) (n : ℕ) (r : Reason) → released_by b held x n ≡ Err r → IsRight (cmd.Release number) r
released_right number false held x n r is = let same : reason.Invalid ≡ r = cc is in subst (IsRight (cmd.Release number)) same (right (cmd.Release number) reason.Invalid refl refl refl)
released_right number true None x n r is = let same : reason.Unknown n ≡ r = cc is in subst (IsRight (cmd.Release number)) same (right (cmd.Release number) (reason.Unknown n) refl refl refl)
released_right number true (Some node) x n r is = absurd (cc is)
