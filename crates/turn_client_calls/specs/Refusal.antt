-- The errors of all calls as one type.
use Rattle.turn_client_api.specs.declared.error.BindChannelError.{BindChannelError}
use Rattle.turn_client_api.specs.declared.error.BindChannelError.TheVariants as Bind
use Rattle.turn_client_api.specs.declared.error.CreatePermissionError.{CreatePermissionError}
use Rattle.turn_client_api.specs.declared.error.CreatePermissionError.TheVariants as Permit
use Rattle.turn_client_api.specs.declared.error.DeleteError.{DeleteError}
use Rattle.turn_client_api.specs.declared.error.DeleteError.TheVariants as Delete
use Rattle.turn_client_api.specs.declared.error.KeepError.{KeepError}
use Rattle.turn_client_api.specs.declared.error.KeepError.TheVariants as Keep
use Rattle.turn_client_api.specs.declared.error.SendError.{SendError}
use Rattle.turn_client_api.specs.declared.error.SendError.TheVariants as Send
use Rattle.turn_client_api.specs.declared.error.TcpAllocateError.{TcpAllocateError}
use Rattle.turn_client_api.specs.declared.error.TcpAllocateError.TheVariants as Socket
use Rattle.turn_client_api.specs.declared.error.TcpConnectError.{TcpConnectError}
use Rattle.turn_client_api.specs.declared.error.TcpConnectError.TheVariants as Connect
use Rattle.turn_client_calls.specs.declared.refusal.Refusal.{Refusal}
use Rattle.turn_client_calls.specs.declared.refusal.Refusal.TheVariants.{AlreadyExists, NoAllocation, NoPermission, NoSocket, Expired, NotGranted, OutOfMemory}

abbrev pub send_refusal : SendError → Refusal
send_refusal Send.NoAllocation = NoAllocation
send_refusal Send.NoPermission = NoPermission
send_refusal Send.NoTcpSocket = NoSocket
send_refusal Send.OutOfMemory = OutOfMemory

abbrev pub create_permission_refusal : CreatePermissionError → Refusal
create_permission_refusal Permit.AlreadyExists = AlreadyExists
create_permission_refusal Permit.NoAllocation = NoAllocation
create_permission_refusal Permit.OutOfMemory = OutOfMemory

abbrev pub bind_channel_refusal : BindChannelError → Refusal
bind_channel_refusal Bind.AlreadyExists = AlreadyExists
bind_channel_refusal (Bind.ExpiredChannelExists until) = Expired until
bind_channel_refusal Bind.NoAllocation = NoAllocation
bind_channel_refusal Bind.OutOfMemory = OutOfMemory

abbrev pub tcp_connect_refusal : TcpConnectError → Refusal
tcp_connect_refusal Connect.AlreadyExists = AlreadyExists
tcp_connect_refusal Connect.NoAllocation = NoAllocation
tcp_connect_refusal Connect.NoPermission = NoPermission
tcp_connect_refusal Connect.OutOfMemory = OutOfMemory

abbrev pub tcp_allocate_refusal : TcpAllocateError → Refusal
tcp_allocate_refusal Socket.AlreadyExists = AlreadyExists
tcp_allocate_refusal Socket.NoAllocation = NoAllocation
tcp_allocate_refusal Socket.OutOfMemory = OutOfMemory

abbrev pub delete_refusal : DeleteError → Refusal
delete_refusal Delete.NoAllocation = NoAllocation
delete_refusal Delete.OutOfMemory = OutOfMemory

abbrev pub keep_refusal : KeepError → Refusal
keep_refusal Keep.NotGranted = NotGranted
