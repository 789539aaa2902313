-- The calls that take no data, and return neither bytes nor a list.
use Rattle.std.specs.Prelude.{⊤}
use Rattle.turn_client_api.specs.declared.call.Call.{Call}
use Rattle.turn_client_api.specs.declared.call.Call.TheVariants as Calls

abbrev pub IsPlainCall : Call → Type 0
IsPlainCall (Calls.Delete now) = ⊤
IsPlainCall (Calls.CreatePermission transport peer now) = ⊤
IsPlainCall (Calls.BindChannel transport peer now) = ⊤
IsPlainCall (Calls.TcpConnect peer now) = ⊤
IsPlainCall (Calls.AllocatedTcpSocket id tuple peer local now) = ⊤
IsPlainCall (Calls.TcpClosed local remote now) = ⊤
IsPlainCall Calls.ProtocolError = ⊤
IsPlainCall (Calls.SetPermissionKept transport peer is_kept) = ⊤
IsPlainCall (Calls.SetChannelKept transport peer is_kept) = ⊤
IsPlainCall _ = ⊥
