pub mod ValidCertificates
