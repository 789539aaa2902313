-- The steps by which time passes in an allocation: what each of them keeps, all of them keep.
use Rattle.std.proofs.Common.{ℕ, List, Option}
use Rattle.turn_types.specs.declared.family.AddressFamily.{AddressFamily}
use Rattle.turn_client_api.specs.State.{State}
use Rattle.turn_client_api.specs.declared.grant.Purpose.{Purpose}
use Rattle.turn_client_api.specs.Grants.{is_connect, is_pending_channel, is_pending_permission}
use Rattle.turn_client_api.specs.Poll.{connections_unbound, failed_by_timeout, expired_in, last_channel_expired, offers_timed_out, permissions_expired, refreshes_timed_out, set_free}

module _ (R : State → State → Type 0) (family : AddressFamily) (given : Option ℕ) (purposes : List Purpose) (now : ℕ) where
  -- in their order
  pub record KeepsExpiry : Type 0 where
    pub trans : (s t u : State) → R s t → R t u → R s u
    pub channels : (s : State) → R s (failed_by_timeout family purposes is_pending_channel s)
    pub permissions : (s : State) → R s (failed_by_timeout family purposes is_pending_permission s)
    pub last_channel : (s : State) → R s (last_channel_expired family now s)
    pub expired_permissions : (s : State) → R s (permissions_expired family now s)
    pub connects : (s : State) → R s (failed_by_timeout family purposes is_connect s)
    pub connections : (s : State) → R s (connections_unbound family purposes now s)
    pub offers : (s : State) → R s (offers_timed_out family given s)
    pub refreshes : (s : State) → R s (refreshes_timed_out family purposes s)
    pub frees : (s : State) → R s (set_free family now s)

  pub expired_in-does : KeepsExpiry → (s : State) → R s (expired_in family given purposes now s)
  expired_in-does k s =
      let a = failed_by_timeout family purposes is_pending_channel s in
      let b = failed_by_timeout family purposes is_pending_permission a in
      let c = last_channel_expired family now b in
      let d = permissions_expired family now c in
      let e = failed_by_timeout family purposes is_connect d in
      let f = connections_unbound family purposes now e in
      let g = offers_timed_out family given f in
      let h = refreshes_timed_out family purposes g in
      let end = set_free family now h in
      k.trans s a end (k.channels s) (k.trans a b end (k.permissions a) (k.trans b c end (k.last_channel b) (k.trans c d end (k.expired_permissions c)
      (k.trans d e end (k.connects d) (k.trans e f end (k.connections e) (k.trans f g end (k.offers f) (k.trans g h end (k.refreshes g) (k.frees h))))))))
