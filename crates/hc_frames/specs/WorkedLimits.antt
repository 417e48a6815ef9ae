-- The numbers of a frame: another value of a constant is refused here.
use Rattle.std.specs.Prelude.{◌≡◌, refl}
use Rattle.hc_frames.specs.declared.limits.TheConstants.{ALIAS_REGISTER, BESIDE_DATA_BYTES, DATAGRAM_HEAD_BYTES, FIRST_DATA, HEAD_BYTES, LEAST_FRAME, LEAST_READ, MAX_DATA, MAX_DATAGRAMS, MAX_ETHERCAT, MOST_FMMUS, SETUP_SERIAL, STATION_REGISTER}

-- a datagram has at most 1,486 data bytes (ETG.1000.4, datagram structure)
max-data : MAX_DATA ≡ 1486
max-data = refl

-- at most 1,500 bytes follow the Ethernet header (IEEE 802.3)
max-ethercat : MAX_ETHERCAT ≡ 1500
max-ethercat = refl

-- a frame has 60 bytes or more before its check sequence (IEEE 802.3)
least-frame : LEAST_FRAME ≡ 60
least-frame = refl

-- the Ethernet header of 14 bytes and the EtherCAT header of 2 (ETG.1000.4, frame structure)
head-bytes : HEAD_BYTES ≡ 16
head-bytes = refl

-- a datagram has 10 bytes before its data (ETG.1000.4, datagram structure)
datagram-head_bytes : DATAGRAM_HEAD_BYTES ≡ 10
datagram-head_bytes = refl

-- a datagram has 2 bytes of working counter after its data
beside-data_bytes : BESIDE_DATA_BYTES ≡ 12
beside-data_bytes = refl

-- the data of a frame's first datagram begin at byte 26
first-data : FIRST_DATA ≡ 26
first-data = refl

-- the datagrams of a frame have at most 1,498 bytes in all
max-datagrams : MAX_DATAGRAMS ≡ 1498
max-datagrams = refl

-- a frame of one datagram without data has 28 bytes
least-read : LEAST_READ ≡ 28
least-read = refl

-- setup frames have the highest serial of 40 bits (this project's profile)
setup-serial : SETUP_SERIAL ≡ 1099511627775
setup-serial = refl

-- the configured station address is at register 0x0010 (ETG.1000.4, station address registers)
station-register : STATION_REGISTER ≡ 0x0010
station-register = refl

-- the configured station alias is at register 0x0012 (ETG.1000.4, station address registers)
alias-register : ALIAS_REGISTER ≡ 0x0012
alias-register = refl

-- a slave has at most 16 FMMUs (ETG.1000.4, 6.6)
most-fmmus : MOST_FMMUS ≡ 16
most-fmmus = refl
