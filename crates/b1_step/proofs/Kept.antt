-- What other drivers' events leave of a peer's part.
use Rattle.std.proofs.Common.{◌≡◌, ◌≢◌, ◌⊎◌, refl, ap, ◌∙◌, inl, inr, ℕ, ◌+◌, ◌==◌, Bool, true, false, ◌&&◌, not, List, [], ◌∷◌, map, filter, get_or, Option, Some, None}
use Rattle.std.proofs.lemmas.Bool.{ne_eqb, eqb-true}
use Rattle.b1_model.specs.declared.naming.Key.{Key}
use Rattle.b1_model.specs.declared.naming.NodeRef.{NodeRef}
use Rattle.b1_model.specs.declared.naming.Opening.{Opening}
use Rattle.b1_model.specs.declared.parts.Attach.{Attach}
use Rattle.b1_model.specs.declared.parts.Attach.TheVariants as attach
use Rattle.b1_model.specs.declared.parts.Slot.{Slot}
use Rattle.b1_model.specs.declared.entries.Entry.{Entry}
use Rattle.b1_model.specs.declared.entries.Entry.TheVariants.{Message, OwnNotice, ForeignNotice, ReleaseNotice}
use Rattle.b1_model.specs.declared.answers.Reason.{Reason}
use Rattle.b1_model.specs.declared.events.Action.{Action}
use Rattle.b1_model.specs.declared.events.Action.TheVariants as act
use Rattle.b1_model.specs.declared.events.Doing.{Doing}
use Rattle.b1_model.specs.MachineParts.{PeerPart, DriverPart, no_node, is_staged, is_data, is_release_notice, carried}
use Rattle.b1_model.specs.MachineTables.{without, is_stage, is_staged_notice, counted, uncounted, foreign}
use Rattle.b1_model.specs.MachineSend.{unstaged_by, find_stage, attached_by, attach_answer, committed_by, with_stamp, notices_committed}
use Rattle.b1_model.specs.MachineReceive.{with_release_notice, is_released, dropped_refs}
use Rattle.b1_model.specs.MachineDestroy.{needs_notice, notice_by, with_foreign_notice, visited_from}
use Rattle.b1_model.specs.MachineOrder.{is_any_release_notice}
use Rattle.b1_model.specs.MachineEvents.{happens, stage_by, doomed_of}
use Rattle.b1_step.specs.Rights.{Has, node_facts, Keeps, may_be_elsewhere}
use Rattle.b1_step.proofs.Lists.{filter_has, map_set, has_map}
use Rattle.b1_step.proofs.Queues.{has_put_old, put_has, has_put_all_old, put_all_has, has_without, without_has}
use Rattle.b1_step.proofs.Records.{kept_refl, kept_trans, kept_expected, kept_unexpected, kept_noticed}

-- ---- what doesn't pass the tests of entries that leave

-- an entry that other drivers' events keep
abbrev Stays : ℕ → Key × Entry → Type 0
Stays p f = (is_staged f ≡ false) ⊎ (f.0.origin ≢ p)

all_and : (a b c e : Bool) → (b ≡ false) ⊎ (c ≡ false) → (a && b && c && e) ≡ false
all_and true true true e h = elim h [ inl is ↦ absurd (cc is) | inr is ↦ absurd (cc is) ]
all_and true true false e h = refl
all_and true false c e h = refl
all_and false b c e h = refl

stage_stays : (p index : ℕ) (f : Key × Entry) → Stays p f → is_stage p index f ≡ false
stage_stays p index f stays = all_and (is_data f.1) (is_staged f) (f.0.origin == p) (f.0.index == index) (elim stays [ inl is ↦ inl is | inr apart ↦ inr (ne_eqb _ _ apart) ])

two_and : (a b c : Bool) → (b ≡ false) ⊎ (c ≡ false) → (a && b && c) ≡ false
two_and true true true h = elim h [ inl is ↦ absurd (cc is) | inr is ↦ absurd (cc is) ]
two_and true true false h = refl
two_and true false c h = refl
two_and false b c h = refl

notice_stays : (p : ℕ) (f : Key × Entry) → Stays p f → is_staged_notice p f ≡ false
notice_stays p f stays = two_and (not (is_data f.1)) (is_staged f) (f.0.origin == p) (elim stays [ inl is ↦ inl is | inr apart ↦ inr (ne_eqb _ _ apart) ])

release_stays : (serial : ℕ) (k : Key) (e : Entry) → is_any_release_notice (k, e) ≡ false → is_release_notice serial (k, e) ≡ false
release_stays serial k (Message origin user index dest offset len nodes slots handles payload) is = refl
release_stays serial k (OwnNotice doomed index) is = refl
release_stays serial k (ForeignNotice node index) is = refl
release_stays serial k (ReleaseNotice mine) is = absurd (cc is)

-- a staged notice of a driver has its number
last_of_three : (a b c : Bool) → (a && b && c) ≡ true → c ≡ true
last_of_three true true c is = is
last_of_three true false c is = absurd (cc is)
last_of_three false b c is = absurd (cc is)

notice_origin : (p : ℕ) (f : Key × Entry) → is_staged_notice p f ≡ true → f.0.origin ≡ p
notice_origin p f is = eqb-true _ _ (last_of_three (not (is_data f.1)) (is_staged f) (f.0.origin == p) is)

-- ---- keeping

module _ (p : ℕ) where
  pub keeps_refl : (x : PeerPart) → Keeps p x x
  keeps_refl x = record {
    me = refl;
    peers = refl;
    user = refl;
    pool = refl;
    limits = refl;
    epoch = refl;
    given = refl;
    dead = refl;
    nodes = refl;
    handles = kept_refl x.handles;
    stays = λ f h any stays. h;
    comes = λ f h. inl h;
  }

  pub keeps_trans : (x y z : PeerPart) → Keeps p x y → Keeps p y z → Keeps p x z
  keeps_trans x y z k l = record {
    me = l.me ∙ k.me;
    peers = l.peers ∙ k.peers;
    user = l.user ∙ k.user;
    pool = l.pool ∙ k.pool;
    limits = l.limits ∙ k.limits;
    epoch = l.epoch ∙ k.epoch;
    given = l.given ∙ k.given;
    dead = l.dead ∙ k.dead;
    nodes = l.nodes ∙ k.nodes;
    handles = kept_trans x.handles y.handles z.handles k.handles l.handles;
    stays = λ f h any stays. l.stays f (k.stays f h any stays) any stays;
    comes = λ f h. elim (l.comes f h) [ inl there ↦ k.comes f there | inr new ↦ inr new ];
  }

  stage_keeps : (r : Option Reason) (memory : Bool) (user place serial : ℕ) (payload : List ℕ) (nodes : List NodeRef) (x : PeerPart) → Keeps p x (stage_by r memory p user place serial payload nodes x).1
  stage_keeps (Some r) memory user place serial payload nodes x = keeps_refl x
  stage_keeps None true user place serial payload nodes x = keeps_refl x
  stage_keeps None false user place serial payload nodes x = record {
    me = refl;
    peers = refl;
    user = refl;
    pool = refl;
    limits = refl;
    epoch = refl;
    given = refl;
    dead = refl;
    nodes = refl;
    handles = kept_expected (foreign x.me nodes) x.handles;
    stays = λ f h any stays. has_put_old _ _ x.queue f h;
    comes = λ f h. elim (put_has _ _ x.queue f h) [ inl same ↦ inr (inl (ap (λ g. g.0.origin) same)) | inr old ↦ inl old ];
  }

  unstage_keeps : (g : Option (Key × Entry)) (x : PeerPart) (index : ℕ) → Keeps p x (unstaged_by g x p index)
  unstage_keeps None x index = keeps_refl x
  unstage_keeps (Some g) x index = record {
    me = refl;
    peers = refl;
    user = refl;
    pool = refl;
    limits = refl;
    epoch = refl;
    given = refl;
    dead = refl;
    nodes = refl;
    handles = kept_unexpected (foreign x.me (carried g.1)) x.handles;
    stays = λ f h any stays. has_without (is_stage p index) x.queue f h (stage_stays p index f stays);
    comes = λ f h. inl (without_has (is_stage p index) x.queue f h);
  }

  attach_keeps : (a : Attach) (x : PeerPart) (serial dest : ℕ) → Keeps p x (attached_by a x serial dest)
  attach_keeps attach.Own x serial dest = keeps_refl x
  attach_keeps (attach.Void stamp) x serial dest = keeps_refl x
  attach_keeps attach.Counted x serial dest = record {
    me = refl;
    peers = refl;
    user = refl;
    pool = refl;
    limits = refl;
    epoch = refl;
    given = refl;
    dead = refl;
    nodes = map_set node_facts x.nodes serial (counted dest (get_or x.nodes serial no_node)) no_node refl;
    handles = kept_refl x.handles;
    stays = λ f h any stays. has_without (is_release_notice serial) x.queue f h (release_stays serial f.0 f.1 any);
    comes = λ f h. inl (without_has (is_release_notice serial) x.queue f h);
  }

  sync_keeps : (x : PeerPart) (clock : ℕ) → Keeps p x (record x { clock = clock })
  sync_keeps x clock = record {
    me = refl;
    peers = refl;
    user = refl;
    pool = refl;
    limits = refl;
    epoch = refl;
    given = refl;
    dead = refl;
    nodes = refl;
    handles = kept_refl x.handles;
    stays = λ f h any stays. h;
    comes = λ f h. inl h;
  }

  commit_keeps : (g : Option (Key × Entry)) (x : PeerPart) (index stamp : ℕ) (slots : List Slot) → Keeps p x (committed_by g x p index stamp slots)
  commit_keeps None x index stamp slots = keeps_refl x
  commit_keeps (Some g) x index stamp slots = record {
    me = refl;
    peers = refl;
    user = refl;
    pool = refl;
    limits = refl;
    epoch = refl;
    given = refl;
    dead = refl;
    nodes = refl;
    handles = kept_refl x.handles;
    stays = λ f h any stays. has_put_old _ _ (without (is_stage p index) x.queue) f (has_without (is_stage p index) x.queue f h (stage_stays p index f stays));
    comes = λ f h. elim (put_has _ _ (without (is_stage p index) x.queue) f h) [ inl same ↦ inr (inl (ap (λ g. g.0.origin) same)) | inr old ↦ inl (without_has (is_stage p index) x.queue f old) ];
  }

  -- a notice that is committed is the driver's
  restamped_origin : (stamp : ℕ) (queue : List (Key × Entry)) (f : Key × Entry) → Has (map (with_stamp stamp) (filter (is_staged_notice p) queue)) f → f.0.origin ≡ p
  restamped_origin stamp queue f h =
      let found = has_map (with_stamp stamp) (filter (is_staged_notice p) queue) f h in
      ap (λ g. g.0.origin) found.2 ∙ notice_origin p found.0 (filter_has (is_staged_notice p) queue found.0 found.1).1

  notices_keep : (x : PeerPart) (stamp : ℕ) → Keeps p x (notices_committed x p stamp)
  notices_keep x stamp = record {
    me = refl;
    peers = refl;
    user = refl;
    pool = refl;
    limits = refl;
    epoch = refl;
    given = refl;
    dead = refl;
    nodes = refl;
    handles = kept_refl x.handles;
    stays = λ f h any stays. has_put_all_old (map (with_stamp stamp) (filter (is_staged_notice p) x.queue)) (without (is_staged_notice p) x.queue) f (has_without (is_staged_notice p) x.queue f h (notice_stays p f stays));
    comes = λ f h. elim (put_all_has (map (with_stamp stamp) (filter (is_staged_notice p) x.queue)) (without (is_staged_notice p) x.queue) f h) [
      | inl new ↦ inr (inl (restamped_origin stamp x.queue f new))
      | inr old ↦ inl (without_has (is_staged_notice p) x.queue f old)
    ];
  }

  release_queued : (b : Bool) (x : PeerPart) (serial : ℕ) → Keeps p x (with_release_notice b x serial)
  release_queued false x serial = keeps_refl x
  release_queued true x serial = record {
    me = refl;
    peers = refl;
    user = refl;
    pool = refl;
    limits = refl;
    epoch = refl;
    given = refl;
    dead = refl;
    nodes = refl;
    handles = kept_refl x.handles;
    stays = λ f h any stays. has_put_old _ _ x.queue f h;
    comes = λ f h. elim (put_has _ _ x.queue f h) [ inl same ↦ inr (inr (ap is_any_release_notice same)) | inr old ↦ inl old ];
  }

  refs_dropped : (x : PeerPart) (serial holder k clock : ℕ) → Keeps p x (dropped_refs x serial holder k clock)
  refs_dropped x serial holder k clock = record {
    me = refl;
    peers = refl;
    user = refl;
    pool = refl;
    limits = refl;
    epoch = refl;
    given = refl;
    dead = refl;
    nodes = map_set node_facts x.nodes serial (uncounted holder k (get_or x.nodes serial no_node)) no_node refl;
    handles = kept_refl x.handles;
    stays = λ f h any stays. h;
    comes = λ f h. inl h;
  }

  drop_keeps : (b : Bool) (x : PeerPart) (serial holder k clock : ℕ) → Keeps p x (with_release_notice b (dropped_refs x serial holder k clock) serial)
  drop_keeps b x serial holder k clock = keeps_trans x (dropped_refs x serial holder k clock) _ (refs_dropped x serial holder k clock) (release_queued b (dropped_refs x serial holder k clock) serial)

  notice_keeps : (b : Bool) (x : PeerPart) (index : ℕ) (node : NodeRef) → Keeps p x (notice_by b p x index node)
  notice_keeps false x index node = keeps_refl x
  notice_keeps true x index node = record {
    me = refl;
    peers = refl;
    user = refl;
    pool = refl;
    limits = refl;
    epoch = refl;
    given = refl;
    dead = refl;
    nodes = refl;
    handles = kept_noticed node x.handles;
    stays = λ f h any stays. has_put_old _ _ x.queue f h;
    comes = λ f h. elim (put_has _ _ x.queue f h) [ inl same ↦ inr (inl (ap (λ g. g.0.origin) same)) | inr old ↦ inl old ];
  }

  visit_keeps : (doomed : List ℕ) (index : ℕ) (x : PeerPart) → Keeps p x (visited_from p index doomed x)
  visit_keeps [] index x = keeps_refl x
  visit_keeps (serial ∷ rest) index x =
      keeps_trans x (with_foreign_notice p x index (record { owner = p; serial = serial })) (visited_from p (index + 1) rest (with_foreign_notice p x index (record { owner = p; serial = serial })))
      (notice_keeps (needs_notice x (record { owner = p; serial = serial })) x index (record { owner = p; serial = serial }))
      (visit_keeps rest (index + 1) (with_foreign_notice p x index (record { owner = p; serial = serial })))

-- an event that may be at another peer keeps all but its driver's own
pub keeps : (o : Opening) (memory : Bool) (d : DriverPart) (doing : Doing) (action : Action) (x : PeerPart) → may_be_elsewhere action ≡ true → Keeps d.me x (happens o memory d doing action x).1
keeps o memory d doing (act.Stage peer place) x is = stage_keeps d.me _ memory _ _ _ _ _ x
keeps o memory d doing (act.Unstage peer place) x is = unstage_keeps d.me (find_stage x d.me place) x place
keeps o memory d doing (act.Attach peer serial dest) x is = attach_keeps d.me (attach_answer x serial dest) x serial dest
keeps o memory d doing (act.Sync peer stamp) x is = sync_keeps d.me x _
keeps o memory d doing (act.Commit peer place stamp) x is = commit_keeps d.me (find_stage x d.me place) x place stamp _
keeps o memory d doing (act.CommitNotices peer stamp) x is = notices_keep d.me x stamp
keeps o memory d doing (act.DropRefs peer serial holder k clock) x is = drop_keeps d.me (is_released (dropped_refs x serial holder k clock) serial) x serial holder k clock
keeps o memory d doing (act.Visit peer) x is = visit_keeps d.me (doomed_of doing.phase) 0 x
keeps o memory d doing action x is = absurd (cc is)
